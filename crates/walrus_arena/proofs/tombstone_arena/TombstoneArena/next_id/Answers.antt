use Rattle.std.proofs.Common.{arith}
use Rattle.std.proofs.lemmas.Grind.{common_steps}
use Rattle.walrus_arena.proofs.tombstone_arena.TombstoneArena.next_id.Goals as goal

pub returns : goal.returns
returns g c = grind (arith, common_steps)
