use Rattle.std.proofs.Common.{◌∙◌, ◌++◌, ◌∷◌, [], List, Option, Some, ℕ, ap, sym, arith}
use Rattle.std.proofs.lemmas.List.FromFn.{map-range_with_len_more}
use Rattle.wasm_module.proofs.renamed_module.same_indices.Goals as goal

pub loop-index-preserved : goal.loop-index-preserved
loop-index-preserved c =
    let i = c.loop-index.index in
    c.in_ok-push.ensures.items ∙ ap (λ (u : List (Option ℕ)). u ++ Some i ∷ []) c.loop-index.invariant
    ∙ sym (map-range_with_len_more (λ n. Some n) 0 i i (omega arith))
