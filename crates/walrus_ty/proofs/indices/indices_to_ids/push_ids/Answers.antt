use Rattle.std.proofs.Common.{ℕ, List, ◌∙◌, ap, ◌++◌, [], ◌∷◌, arith, append_assoc}
use Rattle.std.specs.List.{range_with_len}
use Rattle.walrus_ty.proofs.Basics.{range_push}
use Rattle.walrus_ty.proofs.indices.indices_to_ids.push_ids.Goals as goal

pub loop-k-preserved : goal.loop-k-preserved
loop-k-preserved c = record {
  pushed = c.push_reserved.ensures.items ∙ (ap (λ (ns : List ℕ). ns ++ c.from_index.result ∷ [])
      c.loop-k.invariant.pushed ∙ (append_assoc c.args.ids.now.items (range_with_len c.args.first c.loop-k.k)
      (c.from_index.result ∷ []) ∙ ap (λ (ns : List ℕ). c.args.ids.now.items ++ ns)
      (range_push c.args.first c.loop-k.k c.from_index.result c.from_index.ensures)));
  many = omega arith;
  room = omega arith;
}
