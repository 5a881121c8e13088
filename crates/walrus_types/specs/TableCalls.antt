-- What calls may make of a table, one after the other.
-- The specification has no table of types that changes: its calls are of this crate's own.
use Rattle.std.specs.Prelude.{◌≡◌, ℕ, Bool, List, [], ◌∷◌, ◌++◌, length, All, is_some, nat_eq, MatchBool, if◌then◌else◌}
use Rattle.std.specs.List.{IsDistinct, range_with_len}
use Rattle.walrus_arena.specs.HashKeys.{InitialHasher}
use Rattle.walrus_ty.specs.Groups.{Section}
use Rattle.walrus_ty.specs.Types.{ModuleType}
use Rattle.walrus_types.specs.TypesById.{IsLive, found_id}
use Rattle.walrus_types.specs.Table.{Table, empty_table, Member, next_id, IsTable, IsSameTable, IsTableClone, FindsOrAdds, AddsGroup, Deletes, DeletesAll, DeletesGroup}
use Rattle.walrus_types.specs.ReaderState.{IsReadInto}
use Rattle.walrus_types.specs.TableLends.{with_type}

-- what one call makes of the table old, as the clauses of the call say it
pub data Call (old new : Table) : Type 0 where
  -- `add`, `add_struct`, `add_array`, `add_composite` or `add_entry_ty`, which returns `Ok` or an
  -- error
  Adds : (ty : ModuleType) (id : ℕ) (ok : FindsOrAdds old new ty id) → Call old new
  AddFails : (err : IsSameTable old new) → Call old new
  -- `add_rec_group`, which returns `Ok` or an error
  AddsRec :
      (count : ℕ) (members : List Member)
      (ok : (length members ≡ count) × AddsGroup old new members) → Call old new
  AddRecFails : (err : new ≡ old) → Call old new
  -- `get_mut`, once its borrow ended with this type
  Writes :
      (id : ℕ) (ty : ModuleType) (live : IsLive old.types.slots id)
      (writes : new ≡ with_type old id ty) → Call old new
  -- `delete`
  DeletesOne : (id : ℕ) (live : IsLive old.types.slots id) (ok : Deletes old new id) → Call old new
  -- `delete_all`
  DeletesMany :
      (ids : List ℕ) (live : All (IsLive old.types.slots) ids) (distinct : IsDistinct nat_eq ids)
      (ok : DeletesAll old ids new) → Call old new
  -- `try_delete`, which returns this
  TriesToDelete :
      (id : ℕ) (deleted : Bool) (live : IsLive old.types.slots id)
      (ok : MatchBool deleted (Deletes old new id) (new ≡ old)) → Call old new
  -- `delete_entire_group`
  DeletesWhole :
      (id : ℕ) (live : IsLive old.types.slots id) (ok : DeletesGroup old new id) → Call old new
  -- `clone`, which returns the new table
  Clones : (ok : IsTableClone old new) → Call old new

-- the ids that the call gives to new types, in order
abbrev pub new_ids : {old new : Table} → Call old new → List ℕ
new_ids {old} (Adds ty id ok) = if is_some (found_id old.types ty) then [] else id ∷ []
new_ids (AddFails err) = []
new_ids {old} (AddsRec count members ok) = range_with_len (next_id old) count
new_ids (AddRecFails err) = []
new_ids (Writes id ty live writes) = []
new_ids (DeletesOne id live ok) = []
new_ids (DeletesMany ids live distinct ok) = []
new_ids (TriesToDelete id deleted live ok) = []
new_ids (DeletesWhole id live ok) = []
new_ids (Clones ok) = []

-- one call makes the new table of the old one, and gives these ids to new types
abbrev pub IsCall : Table → Table → List ℕ → Type 0
IsCall old new ids = (call : Call old new) × (new_ids call ≡ ids)

-- one call adds the type, or finds it, and returns the id, which is that of a new type where
-- nothing was found
abbrev pub IsAddition : Table → Table → ModuleType → ℕ → Type 0
IsAddition old new ty id = IsCall old new (if is_some (found_id old.types ty) then [] else id ∷ [])

-- calls that make the table of an empty one, or of one that a section was read into, with all ids
-- that were given, in order
pub data Calls : Table → List ℕ → Type 0 where
  Start : (keys : InitialHasher) → Calls (empty_table keys) []
  Read : (s : Section) (t : Table) (ids : List ℕ) (read : IsReadInto s t ids)
      (grouping : IsTable t) → Calls t (range_with_len 0 (next_id t))
  Then : (old new : Table) (ids : List ℕ) (before : Calls old ids) (call : Call old new) →
      Calls new (ids ++ new_ids call)

-- whatever was called, each type is in one group, and the ids were given in order, each once
pub record IsSound (t : Table) (ids : List ℕ) : Type 0 where
  pub table : IsTable t
  pub ids_in_order : ids ≡ range_with_len 0 (next_id t)

abbrev pub EveryTableIsSound : Type 0
EveryTableIsSound = (t : Table) (ids : List ℕ) → Calls t ids → IsSound t ids
