use Rattle.std.proofs.Common.{◌≡◌, take}
use Rattle.walrus_canonical.specs.Steps.Waits.{waits_from}
use Rattle.walrus_canonical.proofs.waiting.unsorted_waits.Given as goal

abbrev pub invariant-loop-place : goal.invariant-loop-place
invariant-loop-place l = l.waits.items ≡ waits_from 0 (take l.place l.classes)
