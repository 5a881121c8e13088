use Rattle.std.specs.List.Sorted.{IsNonDecreasingBy}
use Rattle.walrus_canonical.specs.declared.waiting.Wait.{Wait}
use Rattle.walrus_canonical.specs.Steps.Waits.{AreStarts}
use Rattle.walrus_canonical.proofs.waiting.Waits.new.Given as goal

abbrev pub invariant-loop-at : goal.invariant-loop-at
invariant-loop-at l =
    IsNonDecreasingBy (λ (w : Wait). w.named) l.pairs.items → AreStarts l.pairs.items l.at l.starts.items
