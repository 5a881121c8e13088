use Rattle.std.proofs.Common.{◌≡◌, take}
use Rattle.walrus_arena.specs.Arena.{without_all}
use Rattle.walrus_arena.proofs.tombstone_arena.TombstoneArena.delete_all.Given as goal

abbrev pub invariant-loop-id : goal.invariant-loop-id
invariant-loop-id g l = l.self ≡ without_all l.fn.self (take l.id-index l.ids)
