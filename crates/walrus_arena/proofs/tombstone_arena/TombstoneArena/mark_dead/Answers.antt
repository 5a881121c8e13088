use Rattle.walrus_arena.proofs.SlotLemmas.{read_live, shows_dead, counts_dead}
use Rattle.walrus_arena.proofs.tombstone_arena.TombstoneArena.mark_dead.Goals as goal

pub invariant_of-self : goal.invariant_of-self
invariant_of-self g c =
    let slots = c.self.inside.slots.items in
    let same = c.index_mut-slot.ensures.value in
    let read = read_live slots c.args.at c.index_mut-slot.result.now same
    (rw (← c.self.view_is) at c.requires) in
    counts_dead slots c.args.at _ _ c.on_delete.new.self same read c.self.invariant

pub returns : goal.returns
returns g c = rw (← c.self.view_is) (shows_dead c.self.inside.slots.items c.args.at _)
