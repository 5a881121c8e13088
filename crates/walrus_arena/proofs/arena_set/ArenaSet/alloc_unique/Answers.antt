use Rattle.std.specs.HashMap.{hasher_of}
use Rattle.std.proofs.Common.{ap}
use Rattle.std.proofs.lemmas.Result.{on_ok_weaker, on_err_weaker}
use Rattle.walrus_arena.proofs.arena_set.ArenaSet.alloc_unique.Goals as goal

pub returns-clause-id : goal.returns-clause-id
returns-clause-id g c = rw (← c.self.view_is) c.alloc.ensures.id

pub returns-clause-ok : goal.returns-clause-ok
returns-clause-ok g c = rw (← c.self.view_is)
    (on_ok_weaker c.alloc.result (λ grown. ap (λ s.
    record { slots = s; entries = c.self.inside.map.entries; keys = hasher_of c.self.inside.map }) grown)
    c.alloc.ensures.ok)

pub returns-clause-err : goal.returns-clause-err
returns-clause-err g c = rw (← c.self.view_is)
    (on_err_weaker c.alloc.result (λ same. ap (λ s.
    record { slots = s; entries = c.self.inside.map.entries; keys = hasher_of c.self.inside.map }) same)
    c.alloc.ensures.err)
