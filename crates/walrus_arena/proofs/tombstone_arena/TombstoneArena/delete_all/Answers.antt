use Rattle.walrus_arena.proofs.ArenaLemmas.{next_is_live}
use Rattle.walrus_arena.proofs.tombstone_arena.TombstoneArena.delete_all.Goals as goal

pub mark_dead-requires : goal.mark_dead-requires
mark_dead-requires g c =
    let next = next_is_live c.args.self.now c.args.ids.now c.loop-id.id-index c.id-item.result c.requires.live
    c.requires.distinct c.loop-id-test.true in
    rw (c.loop-id.invariant, c.place.ensures, c.id-item.is) next
