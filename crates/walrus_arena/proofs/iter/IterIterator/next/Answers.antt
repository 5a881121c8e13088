use Rattle.std.proofs.Common.{rules}
use Rattle.walrus_arena.proofs.iter.IterIterator.next.Goals as goal

pub returns-then-slot-clause-steps : goal.returns-then-slot-clause-steps
returns-then-slot-clause-steps g c = search rules

pub loop-slot-preserved : goal.loop-slot-preserved
loop-slot-preserved g c = search rules
