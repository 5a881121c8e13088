use Rattle.std.proofs.Common.{rules}
use Rattle.walrus_arena.proofs.arena_set.ArenaSet.alloc_and_register.Goals as goal

pub returns-in_err-alloc-clause-err : goal.returns-in_err-alloc-clause-err
returns-in_err-alloc-clause-err g c = search rules

pub returns-clause-ok : goal.returns-clause-ok
returns-clause-ok g c = search rules
