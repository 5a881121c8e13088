use Rattle.std.proofs.Common.{◌<◌, ◌≤◌}
use Rattle.walrus_canonical.specs.Steps.Marks.{Marks}
use Rattle.walrus_canonical.proofs.needed.mark_group.Given as goal

abbrev pub invariant-loop-at : goal.invariant-loop-at
invariant-loop-at l =
    Marks l.fn.needed.items l.needed.items (λ i. (l.start ≤ i) × (i < l.at) × (i < l.end))
