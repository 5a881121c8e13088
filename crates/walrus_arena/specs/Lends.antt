-- What an arena ends as, where a `&mut` to one of its items is returned.
use Rattle.std.specs.Prelude.{ℕ, Option}
use Rattle.std.specs.Borrow.{Lends, LendsIf, Fml, RattleType, MutBor}
use Rattle.std.specs.declared.alloc.Allocator.{Ghosts}
use Rattle.walrus_arena.specs.Arena.{Slots, with_value}
use Rattle.walrus_arena.specs.contracts.tombstone_arena.TombstoneArena.{the_row}

module _ (Item Alloc : RattleType) (allocation : Ghosts Alloc.Denot)
    (arena : MutBor (Slots Item.Denot)) (id : ℕ) where
  -- once the borrow of the item ends, the id has the last value written through it
  abbrev pub LendsItem : MutBor Item.Denot → Fml
  LendsItem item = Lends (the_row Item Alloc allocation) Item arena item (with_value arena.now id)

  -- what the id has once the borrow ends, where there is an item; at `None` the arena stays as it is
  abbrev pub LendsItemIf : Option (MutBor Item.Denot) → Fml
  LendsItemIf item =
      LendsIf (the_row Item Alloc allocation) Item arena item (with_value arena.now id) arena.now
