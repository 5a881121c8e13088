-- Which groups of a table are free, and which are written, as tests.
-- Of this crate's own working; it serves the writing of a table as a type section. WebAssembly core
-- specification, "Modules", types.
use Rattle.std.specs.Prelude.{ℕ, ◌==◌, ◌||◌, ◌&&◌, List, [], ◌∷◌, Bool, true, false, not, is_none, Option, Some, None, option_and_then}
use Rattle.std.specs.List.{list_all, list_any}
use Rattle.walrus_ty.specs.Types.{ModuleType, type_definition}
use Rattle.walrus_ty.specs.Definition.{names_of}
use Rattle.walrus_types.specs.declared.table.rec_group.RecGroup.{RecGroup}
use Rattle.walrus_types.specs.TypesById.{TypeSlots, live_type}
use Rattle.walrus_types.specs.Table.{rec_group_at}
use Rattle.walrus_types.specs.TableEmission.{is_entry_at}

-- the name is the type's own, or that of no live type
abbrev pub is_own_or_dead : TypeSlots → ℕ → ℕ → Bool
is_own_or_dead slots own k = (k == own) || is_none (live_type slots k)

abbrev pub names_none_other : TypeSlots → ℕ → List ℕ → Bool
names_none_other slots own names = list_all (is_own_or_dead slots own) names

abbrev pub slot_names_none_other : TypeSlots → ℕ → Option ModuleType → Bool
slot_names_none_other slots own None = true
slot_names_none_other slots own (Some t) = names_none_other slots own (names_of (type_definition t))

abbrev pub is_free_of : TypeSlots → Bool → List ℕ → Bool
is_free_of slots is_explicit [] = true
is_free_of slots is_explicit (i ∷ []) =
    not is_explicit && slot_names_none_other slots i (live_type slots i)
is_free_of slots is_explicit (i ∷ j ∷ ids) = false

-- the group is empty, or not explicit with one type that names no live type but itself
abbrev pub is_free : TypeSlots → RecGroup → Bool
is_free slots g = is_free_of slots g.is_explicit g.types

abbrev pub first_of : List ℕ → Option ℕ
first_of [] = None
first_of (i ∷ ids) = Some i

-- its first type
abbrev pub head : TypeSlots → RecGroup → Option ModuleType
head slots g = option_and_then (live_type slots) (first_of g.types)

-- some type of the group stands for more than the entry of a function
abbrev pub is_written_group : TypeSlots → RecGroup → Bool
is_written_group slots g = list_any (λ i. not (is_entry_at slots i)) g.types

-- whether the group at this place is free
abbrev pub is_free_at : TypeSlots → List RecGroup → ℕ → Bool
is_free_at slots groups place = is_free slots (rec_group_at groups place)

-- whether the group at this place is written
abbrev pub is_written_at : TypeSlots → List RecGroup → ℕ → Bool
is_written_at slots groups place = is_written_group slots (rec_group_at groups place)
