use Rattle.std.proofs.Common.{take}
use Rattle.walrus_canonical.specs.Steps.Waits.{AreCounts}
use Rattle.walrus_canonical.proofs.waiting.wait_counts.Given as goal

abbrev pub invariant-loop-wait : goal.invariant-loop-wait
invariant-loop-wait l = AreCounts (take l.wait-index l.waits) l.class_count l.counts.items
