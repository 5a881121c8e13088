use Rattle.std.proofs.Common.{rules}
use Rattle.walrus_arena.proofs.tombstone_arena.TombstoneArena.get_mut.Goals as goal

pub returns-then-contains : goal.returns-then-contains
returns-then-contains g c = search rules

pub returns-else-contains : goal.returns-else-contains
returns-else-contains g c = search rules
