use Rattle.std.proofs.Common.{ℕ, List, ◌∙◌, ◌+◌, ap, ◌++◌, [], ◌∷◌, refl, arith}
use Rattle.std.specs.List.{range_with_len}
use Rattle.walrus_types.proofs.Tables.NewGroup.{range_push}
use Rattle.walrus_types.proofs.table.ModuleTypes.next_ids.Goals as goal

pub loop-k-preserved : goal.loop-k-preserved
loop-k-preserved c = record {
  made = c.push_reserved.ensures.items ∙ ap (λ (ids : List ℕ). ids ++ c.from_index.result ∷ [])
      c.loop-k.invariant.made ∙ ap (λ (n : ℕ). range_with_len c.len-first.result c.loop-k.k ++ n ∷ [])
      c.from_index.ensures ∙ range_push c.len-first.result c.loop-k.k (c.loop-k.k + 1) refl;
  many = omega arith;
  room = omega arith;
}
