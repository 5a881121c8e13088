-- What calls on an arena or a set do to its slots, each in the words of the calls' contracts, and
-- which ids of new slots they return.
use Rattle.std.specs.Prelude.{◌≡◌, ℕ, ◌≤◌, List, [], ◌∷◌, ◌++◌, length, map, Some, All, nat_eq, ⊤}
use Rattle.std.specs.List.{IsDistinct}
use Rattle.walrus_arena.specs.Arena.{Slots, with_value, without, without_all, range}

-- one call: the slots before and after it, and the ids of new slots that it returns
pub data Call {T : Type 0} (old new : Slots T) (ids : List ℕ) : Type 0 where
  -- `alloc`, `alloc_with_id`, `alloc_unique` and `alloc_and_register`, and an `insert` that found
  -- nothing; `alloc_dead` is this, and then `deletes` of the new id
  allocates :
      (value : T) (id : ℕ) → ids ≡ id ∷ [] → id ≡ length old → new ≡ old ++ Some value ∷ [] →
      Call old new ids
  -- `alloc_all`
  allocates_all :
      (values : List T) → ids ≡ range (length old) (length values) → new ≡ old ++ map Some values →
      Call old new ids
  -- a write through `get_mut` or an index, and `replace_and_register`
  writes : (id : ℕ) (value : T) → ids ≡ [] → new ≡ with_value old id value → Call old new ids
  -- `delete` and `remove`
  deletes : (id : ℕ) → ids ≡ [] → new ≡ without old id → Call old new ids
  -- `delete_all` and `remove_all`
  deletes_all : (dead : List ℕ) → ids ≡ [] → new ≡ without_all old dead → Call old new ids
  -- a call that is refused, an `insert` that found an equal item, and a call that only reads
  stays : ids ≡ [] → new ≡ old → Call old new ids

-- what a call left, and the ids of new slots that it returned
pub record Step (T : Type 0) : Type 0 where
  pub slots : Slots T
  pub ids : List ℕ

module _ {T : Type 0} where
  -- each step is a call on what the one before it left
  abbrev pub AreCalls : Slots T → List (Step T) → Type 0
  AreCalls s [] = ⊤
  AreCalls s (step ∷ steps) = Call s step.slots step.ids × AreCalls step.slots steps

  -- the ids of new slots that these steps return
  abbrev pub new_ids : List (Step T) → List ℕ
  new_ids [] = []
  new_ids (step ∷ steps) = step.ids ++ new_ids steps

  -- no id is returned twice, and none that a slot had before
  pub record AnswersFreshIds (s : Slots T) (steps : List (Step T)) : Type 0 where
    pub once : IsDistinct nat_eq (new_ids steps)
    pub fresh : All (λ id. length s ≤ id) (new_ids steps)
