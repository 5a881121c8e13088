use Rattle.std.proofs.Common.{rules}
use Rattle.walrus_arena.proofs.arena_set.ArenaSet.next_id.Goals as goal

pub returns : goal.returns
returns g c = search rules
