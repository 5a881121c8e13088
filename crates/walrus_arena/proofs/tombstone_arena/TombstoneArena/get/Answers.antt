use Rattle.std.proofs.Common.{arith}
use Rattle.std.proofs.lemmas.Grind.{common_steps}
use Rattle.walrus_arena.proofs.tombstone_arena.TombstoneArena.get.Goals as goal

pub returns-then-slot : goal.returns-then-slot
returns-then-slot g c = grind (arith, common_steps)

pub returns-else-slot : goal.returns-else-slot
returns-else-slot g c = grind (arith, common_steps)
