use Rattle.std.proofs.Common.{◌≡◌, ℕ, ◌∙◌, subst, arith}
use Rattle.walrus_ty.specs.Indices.{index_map, GivesNext}
use Rattle.walrus_ty.proofs.IndexMaps.NextIndex.{gives_next}
use Rattle.walrus_ty.proofs.indices.ids_to_indices.Indices.push_all.Goals as goal

pub loop-id-preserved : goal.loop-id-preserved
loop-id-preserved g c =
    let same : c.from_index.result ≡ c.id-item.result = c.from_index.ensures ∙ c.index.ensures in
    let gives : GivesNext (index_map c.loop-id.self) (index_map c.push.new.self) c.id-item.result =
    subst (λ (id : ℕ). GivesNext (index_map c.loop-id.self) (index_map c.push.new.self) id) same
    ((c.in_ok-push.ensures {u = tt}).ok) in
    record {
      gives = gives_next c.args.ids.now c.loop-id.id-index c.id-item.result (index_map c.args.self.now)
          (index_map c.loop-id.self) (index_map c.push.new.self) c.loop-id-test.true c.id-item.is
          c.requires.distinct c.loop-id.invariant.gives gives;
      many = omega (arith, gives.count, c.loop-id.invariant.many);
      room = omega (arith, c.push.ensures.spare, c.loop-id.invariant.room);
    }
