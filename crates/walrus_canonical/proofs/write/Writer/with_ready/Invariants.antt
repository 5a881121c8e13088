use Rattle.std.proofs.Common.{List}
use Rattle.walrus_canonical.specs.declared.waiting.Wait.{Wait}
use Rattle.walrus_canonical.specs.Steps.Waits.{AreWaits}
use Rattle.walrus_canonical.specs.Steps.Writing.{Task, IsOpening}
use Rattle.walrus_canonical.proofs.write.Writer.with_ready.Given as goal

abbrev pub invariant-loop-place : goal.invariant-loop-place
invariant-loop-place l =
    (task : Task) (waits : List Wait) → AreWaits task.classes waits → IsOpening task waits 0 l.fn.self →
    IsOpening task waits l.place l.writer
