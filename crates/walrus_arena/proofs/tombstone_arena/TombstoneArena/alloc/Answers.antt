use Rattle.walrus_arena.proofs.tombstone_arena.TombstoneArena.alloc.Goals as goal

pub returns-clause-id : goal.returns-clause-id
returns-clause-id g c = c.next_id-id.ensures
