-- What a list ends as, where a `&mut` to one of its items is returned.
-- Of this crate's own: the WebAssembly specification has vectors, and no places to write in them.
use Rattle.std.specs.Prelude.{ℕ, List, slice_set}
use Rattle.std.specs.Borrow.{Lends, Fml, RattleType, MutBor}
use Rattle.walrus_ty.specs.contracts.listed.Listed.{the_row}

-- once the borrow of the item ends, the list has the last value written through it at this place
abbrev pub LendsItem :
    (Item : RattleType) → MutBor (List Item.Denot) → ℕ → MutBor Item.Denot → Fml
LendsItem Item list place item = Lends (the_row Item) Item list item (slice_set list.now place)
