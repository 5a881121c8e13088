use Rattle.std.proofs.Common.{[], false}
use Rattle.walrus_canonical.specs.Steps.Waits.{AreWaits}
use Rattle.walrus_canonical.specs.Steps.Writing.{Task, IsWriting}
use Rattle.walrus_canonical.proofs.Output.WrittenTurns.{HasTurned}
use Rattle.walrus_canonical.proofs.write.Writer.with_all.Given as goal

abbrev pub invariant-loop-turn : goal.invariant-loop-turn
invariant-loop-turn l =
    (task : Task) → AreWaits task.classes l.waits → IsWriting task l.waits (λ x. false) [] l.fn.self →
    HasTurned task l.waits l._turn l.writer
