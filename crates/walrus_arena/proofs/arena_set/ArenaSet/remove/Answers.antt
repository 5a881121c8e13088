use Rattle.std.proofs.Common.{rules}
use Rattle.walrus_arena.proofs.arena_set.ArenaSet.remove.Goals as goal

pub returns-clause-ok : goal.returns-clause-ok
returns-clause-ok g c = search rules
