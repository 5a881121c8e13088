use Rattle.std.proofs.Common.{◌≡◌, List, Some, length, slice_get}
use Rattle.std.specs.List.Sorted.{IsNonDecreasingBy}
use Rattle.walrus_canonical.specs.declared.waiting.Wait.{Wait}
use Rattle.walrus_canonical.specs.Steps.Waits.{AreStarts}
use Rattle.walrus_canonical.proofs.waiting.push_starts.Given as goal

abbrev pub invariant-loop-slot : goal.invariant-loop-slot
invariant-loop-slot l = record {
  long : length l.starts.items ≡ l._slot;
  are :
      (pairs : List Wait) (wait : Wait) → IsNonDecreasingBy (λ (w : Wait). w.named) pairs →
      slice_get pairs l.start ≡ Some wait → wait.named ≡ l.named →
      AreStarts pairs l.start l.fn.starts.items → AreStarts pairs l.start l.starts.items;
}
