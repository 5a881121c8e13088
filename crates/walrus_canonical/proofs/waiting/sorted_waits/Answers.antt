use Rattle.std.proofs.Common.{rules}
use Rattle.std.proofs.lemmas.List.Sorted.{IsNonDecreasingBy-from_sort_by_key}
use Rattle.walrus_canonical.specs.declared.waiting.Wait.{Wait}
use Rattle.walrus_canonical.proofs.waiting.sorted_waits.Goals as goal

pub returns : goal.returns
returns c = record {
  rising = IsNonDecreasingBy-from_sort_by_key (λ (w : Wait). w.named) _ c.sort_unstable_by_key.ensures.sorted
      (λ a r q k. search rules);
  all = rw c.in_ok-waits.ensures at c.sort_unstable_by_key.ensures.permutation;
}
