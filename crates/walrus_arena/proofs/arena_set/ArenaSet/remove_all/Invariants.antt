use Rattle.std.proofs.Common.{◌≡◌, take}
use Rattle.walrus_arena.specs.Arena.{without_all}
use Rattle.walrus_arena.specs.Set.{RemovesAll}
use Rattle.walrus_arena.proofs.arena_set.ArenaSet.remove_all.Given as goal

abbrev pub invariant-loop-id : goal.invariant-loop-id
invariant-loop-id g l = record {
  slots : l.self.slots ≡ without_all l.fn.self.slots (take l.id-index l.ids);
  removed : RemovesAll g.T.PartialEq.eq l.fn.self (take l.id-index l.ids) l.self;
}
