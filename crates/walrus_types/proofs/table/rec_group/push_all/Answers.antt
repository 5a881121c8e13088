use Rattle.std.proofs.Common.{ℕ, List, ◌∙◌, ◌+◌, ap, ◌++◌, [], ◌∷◌, refl, arith, replicate, append_assoc}
use Rattle.walrus_types.proofs.Tables.NewGroup.{replicate_push}
use Rattle.walrus_types.proofs.table.rec_group.push_all.Goals as goal

pub loop-preserved : goal.loop-preserved
loop-preserved c =
    let old : List ℕ = c.args.numbers.now.items in
    record {
      pushed = c.push_reserved.ensures.items ∙ ap (λ (ns : List ℕ). ns ++ c.args.number ∷ [])
          c.loop.invariant.pushed ∙ append_assoc c.args.numbers.now.items
          (replicate c.loop.counter c.args.number) (c.args.number ∷ [])
          ∙ ap (λ (ns : List ℕ). c.args.numbers.now.items ++ ns)
          (replicate_push c.loop.counter (c.loop.counter + 1) c.args.number refl);
      many = omega arith;
      room = omega arith;
    }
