use Rattle.std.proofs.Common.{rules}
use Rattle.walrus_arena.proofs.tombstone_arena.TombstoneArena.contains.Goals as goal

pub returns : goal.returns
returns g c = search rules
