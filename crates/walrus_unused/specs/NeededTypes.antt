-- Which types of a table are needed, where some of them, the roots, are wanted for themselves; and
-- what stays of a table that keeps just some types.
-- WebAssembly core specification, "Types": a recursive type is defined as a whole, and its types
-- name others. The specification has no table whose types are deleted: that is of this
-- crate's own.
use Rattle.std.specs.Prelude.{◌≡◌, ℕ, ◌↔◌, [], List, length, Some, Contains, IsSomeAnd}
use Rattle.std.specs.List.Sorted.{IsStrictlyIncreasing}
use Rattle.walrus_ty.specs.Definition.{Names}
use Rattle.walrus_ty.specs.Types.{ModuleType, type_definition}
use Rattle.walrus_types.specs.TypesById.{live_type, IsLive, found_id}
use Rattle.walrus_types.specs.Table.{Table, IsIdAt, rec_group_at, next_id}

-- the type of the first id is live and names the second, be it as supertype
abbrev pub IsNamedBy : Table → ℕ → ℕ → Type 0
IsNamedBy t user id =
    IsSomeAnd (live_type t.types.slots user) (λ ty. Names (type_definition ty) id)

-- both are in one group
abbrev pub AreInOneGroup : Table → ℕ → ℕ → Type 0
AreInOneGroup t a b =
    (k : ℕ) × (u : ℕ) × (v : ℕ) × IsIdAt t.groups k u a × IsIdAt t.groups k v b

-- a root is needed, so is a live type that a needed one names, and so is what is in one group with
-- a needed one
pub data IsNeeded (t : Table) (roots : List ℕ) : ℕ → Type 0 where
  root : (id : ℕ) → Contains roots id → IsNeeded t roots id
  named :
      (user id : ℕ) → IsNeeded t roots user → IsNamedBy t user id → IsLive t.types.slots id →
      IsNeeded t roots id
  grouped : (mate id : ℕ) → IsNeeded t roots mate → AreInOneGroup t mate id → IsNeeded t roots id

-- these are the live types that are not needed, in the order of their ids
pub record AreUnused (t : Table) (roots ids : List ℕ) : Type 0 where
  pub unused :
      (id : ℕ) → Contains ids id → IsLive t.types.slots id × (IsNeeded t roots id → ⊥)
  pub others :
      (id : ℕ) → IsLive t.types.slots id → (Contains ids id → ⊥) → IsNeeded t roots id
  pub in_order : IsStrictlyIncreasing ids

-- the types of which P holds stay as they were: at their ids, in their groups, and found by value
pub record Keeps (P : ℕ → Type 0) (old new : Table) : Type 0 where
  pub types :
      (id : ℕ) → P id → live_type new.types.slots id ≡ live_type old.types.slots id
  pub next : next_id new ≡ next_id old
  pub found :
      (q : ModuleType) (id : ℕ) →
      (found_id new.types q ≡ Some id) ↔ ((found_id old.types q ≡ Some id) × P id)
  pub count : length new.groups ≡ length old.groups
  -- a group with such a type is the same
  pub groups :
      (k u id : ℕ) → IsIdAt old.groups k u id → P id →
      rec_group_at new.groups k ≡ rec_group_at old.groups k
  -- and any other has no types left
  pub emptied :
      (k : ℕ) → ((u id : ℕ) → IsIdAt old.groups k u id → P id → ⊥) →
      (rec_group_at new.groups k).types ≡ []
