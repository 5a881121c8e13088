-- How far the marking of needed types has come.
use Rattle.std.specs.Prelude.{◌≡◌, ℕ, ◌+◌, ◌<◌, ◌↔◌, Bool, true, false, List, [], ◌∷◌, length, replicate, slice_index_or, slice_set, if◌then◌else◌, Option, Some, None}
use Rattle.std.specs.List.{fold}
use Rattle.walrus_ty.specs.Types.{ModuleType}
use Rattle.walrus_ty.specs.Views.{referenced_ids}
use Rattle.walrus_types.specs.declared.table.rec_group.RecGroup.{RecGroup}
use Rattle.walrus_types.specs.TypesById.{live_type, IsLive}
use Rattle.walrus_types.specs.Table.{Table, IsTable, group_with}
use Rattle.walrus_unused.specs.NeededTypes.{IsNeeded}

-- a mark for each id, and the work that comes next first
pub record State : Type 0 where
  pub marks : List Bool
  pub work : List ℕ

-- no marks for the ids up to this one, and no work
abbrev pub no_marks : ℕ → State
no_marks ids = record { marks = replicate ids false; work = [] }

abbrev pub is_marked : State → ℕ → Bool
is_marked s id = slice_index_or s.marks id false

abbrev pub IsMarked : State → ℕ → Type 0
IsMarked s id = is_marked s id ≡ true

abbrev pub IsUnmarked : State → Type 0
IsUnmarked s = (s.work ≡ []) × ((id : ℕ) → is_marked s id ≡ false)

-- the state with this work before the rest
abbrev pub with_work : ℕ → State → State
with_work id s = record s { work = id ∷ s.work }

-- an id that has no mark gets one, and its names are to be followed
abbrev pub with_mark : ℕ → State → State
with_mark id s =
    if is_marked s id then s else record { marks = slice_set s.marks id true; work = id ∷ s.work }

-- each of these in turn
abbrev pub with_marks : List ℕ → State → State
with_marks ids s = fold (λ s id. with_mark id s) s ids

abbrev pub members_of : Option RecGroup → List ℕ
members_of None = []
members_of (Some g) = g.types

-- the group of an id that has no mark is marked
abbrev pub with_group_marks : Table → ℕ → State → State
with_group_marks t id s =
    if is_marked s id then s else with_marks (members_of (group_with t.groups id)) s

-- each of these in turn
abbrev pub with_all_group_marks : Table → List ℕ → State → State
with_all_group_marks t ids s = fold (λ s id. with_group_marks t id s) s ids

abbrev pub ids_in : Option ModuleType → List ℕ
ids_in None = []
ids_in (Some ty) = referenced_ids ty

-- the ids that the type of the id names
abbrev pub named_ids : Table → ℕ → List ℕ
named_ids t id = ids_in (live_type t.types.slots id)

-- the table is one, and there is a mark for each of its types
pub record Covers (t : Table) (s : State) : Type 0 where
  pub grouping : IsTable t
  pub size : (id : ℕ) → IsLive t.types.slots id → id < length s.marks

-- just what the roots need is marked
abbrev pub MarksNeeded : Table → List ℕ → State → Type 0
MarksNeeded t roots s = (id : ℕ) → IsMarked s id ↔ IsNeeded t roots id

-- how many ids have no mark
abbrev pub unmarked_count : List Bool → ℕ
unmarked_count [] = 0
unmarked_count (true ∷ marks) = unmarked_count marks
unmarked_count (false ∷ marks) = 1 + unmarked_count marks

-- how many steps are left
abbrev pub steps_left : State → ℕ
steps_left s = length s.work + unmarked_count s.marks
