use Rattle.walrus_unused.specs.Steps.Marking.{steps_left}
use Rattle.walrus_unused.proofs.UnusedTypes.Reaching.{IsMarking}
use Rattle.walrus_unused.proofs.unused_types.marking.Marking.mark_needed.Given as goal

abbrev pub invariant-loop-id : goal.invariant-loop-id
invariant-loop-id l = IsMarking l.types l.roots l.self

abbrev pub decreases-loop-id : goal.decreases-loop-id
decreases-loop-id l = steps_left l.self
