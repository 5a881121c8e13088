use Rattle.std.specs.HashMap.{hasher_of}
use Rattle.std.proofs.Common.{◌∙◌, ap}
use Rattle.walrus_arena.specs.Arena.{without}
use Rattle.walrus_arena.proofs.ArenaLemmas.{died_at_once}
use Rattle.walrus_arena.proofs.arena_set.ArenaSet.alloc_dead.Goals as goal

pub returns-clause-id : goal.returns-clause-id
returns-clause-id g c = rw (← c.self.view_is) (c.from_index.ensures ∙ c.index-dead.ensures
    ∙ c.in_ok-alloc.ensures.id)

pub returns-clause-ok : goal.returns-clause-ok
returns-clause-ok g c =
    let arena = c.self.inside.arena in
    let at = c.index-dead.result in
    let last = c.index-dead.ensures ∙ c.in_ok-alloc.ensures.id in
    let dead = c.mark_dead.ensures ∙ (ap (λ s. without s at) c.in_ok-alloc.ensures.ok
    ∙ died_at_once arena c.args.value at last) in
    rw (← c.self.view_is) (ap (λ s. record {
      slots = s;
      entries = c.self.inside.map.entries;
      keys =
          hasher_of c.self.inside.map;
    }) dead)
