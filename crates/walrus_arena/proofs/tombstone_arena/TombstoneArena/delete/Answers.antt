use Rattle.std.proofs.Common.{◌∙◌, ap}
use Rattle.walrus_arena.specs.Arena.{without}
use Rattle.walrus_arena.proofs.tombstone_arena.TombstoneArena.delete.Goals as goal

pub returns-clause-ok : goal.returns-clause-ok
returns-clause-ok g c = c.mark_dead.ensures ∙ ap (without c.args.self.now) c.index.ensures
