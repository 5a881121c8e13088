-- What a set ends as, where a `&mut` to one of its items is returned.
use Rattle.std.specs.Prelude.{ℕ, List, Bool}
use Rattle.std.specs.Borrow.{Lends, Fml, RattleType, MutBor}
use Rattle.std.specs.declared.alloc.Allocator as alloc
use Rattle.std.specs.declared.clone.Clone as clone
use Rattle.walrus_arena.specs.Arena.{with_value}
use Rattle.walrus_arena.specs.Set.{Set}
use Rattle.walrus_arena.specs.contracts.arena_set.ArenaSet.{the_row}

-- what a clause has as T.Hash: equality, and what of a value is hashed
abbrev pub HashMembers : Type 0 → Type 0
HashMembers Item = record { eq : Item → Item → Bool; hash_input : Item → List (List ℕ) }

-- the set after a write of this value at the id
abbrev pub with_item : {Item : Type 0} → Set Item → ℕ → Item → Set Item
with_item set id value = record set { slots = with_value set.slots id value }

-- once the borrow of the item ends, the id has the last value written through it, and the map is as
-- it was
abbrev pub LendsSetItem :
    (Item Alloc : RattleType) → clone.Ghosts Item.Denot → HashMembers Item.Denot →
    alloc.Ghosts Alloc.Denot → MutBor (Set Item.Denot) → ℕ → MutBor Item.Denot → Fml
LendsSetItem Item Alloc cloning hashing allocation set id item =
    Lends (the_row Item Alloc cloning (record { eq = hashing.eq })
    (record { hash_input = hashing.hash_input }) allocation)
    Item set item (with_item set.now id)
