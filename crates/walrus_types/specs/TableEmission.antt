-- A table of types that is written as a section.
-- WebAssembly core specification, "Modules", types: what is written is a module's list of recursion
-- groups. The specification has no rule by which a table is written; this one is of this crate's
-- own.
use Rattle.std.specs.Prelude.{◌≡◌, ℕ, ◌↔◌, Bool, false, List, map, Option, Some, None, IsSome}
use Rattle.walrus_ty.specs.declared.records.GroupAt.{GroupAt}
use Rattle.walrus_types.specs.declared.table.rec_group.RecGroup.{RecGroup}
use Rattle.walrus_types.specs.declared.error.EmitError.{EmitError}
use Rattle.walrus_types.specs.declared.error.EmitError.TheVariants as emit
use Rattle.walrus_ty.specs.Definition.{Definition}
use Rattle.walrus_sections.specs.Section.{no_place}
use Rattle.walrus_sections.specs.SlotMap.{TypeGroup}
use Rattle.walrus_sections.specs.Emission.{TableView, WrittenMember, IsEmission}
use Rattle.walrus_sections.specs.Refusal.{NameUse, IsMissing, IsFirstMissing, written_count}
use Rattle.walrus_ty.specs.Records.{section_of}
use Rattle.walrus_ty.specs.Types.{ModuleType, type_definition}
use Rattle.walrus_types.specs.TypesById.{TypeSlots, live_type}
use Rattle.walrus_ty.specs.Lookups.{value_or_zero}
use Rattle.walrus_ty.specs.Indices.{IndexMap}
use Rattle.walrus_types.specs.Table.{Table}

abbrev pub contents : RecGroup → TypeGroup
contents g = record { ids = g.types; is_explicit = g.is_explicit }

-- the groups of a table, by ids
abbrev pub type_groups : List RecGroup → List TypeGroup
type_groups groups = map contents groups

abbrev pub slot_definition : Option ModuleType → Definition
slot_definition None = no_place.definition
slot_definition (Some t) = type_definition t

-- what the type of a live id is defined to be
abbrev pub definition_at : TypeSlots → ℕ → Definition
definition_at slots id = slot_definition (live_type slots id)

abbrev pub slot_is_entry : Option ModuleType → Bool
slot_is_entry None = false
slot_is_entry (Some t) = t.is_for_function_entry

-- whether the type of a live id stands for the entry of a function
abbrev pub is_entry_at : TypeSlots → ℕ → Bool
is_entry_at slots id = slot_is_entry (live_type slots id)

-- P of both ids, if the error is that a type names one that has no index
abbrev pub IfNameMissing : EmitError → (ℕ → ℕ → Type 0) → Type 0
IfNameMissing (emit.NoIndex from to) P = P from to
IfNameMissing emit.TooMany P = Unit {0}
IfNameMissing emit.Memory P = Unit {0}

-- the table as emission sees it
abbrev pub table_view : Table → TableView
table_view t =
    record {
      groups = type_groups t.groups;
      definition = definition_at t.types.slots;
      is_entry = is_entry_at t.types.slots;
    }

-- the id is in a written group
abbrev pub IsWrittenId : TableView → ℕ → Type 0
IsWrittenId table id = (member : WrittenMember table) × (member.id ≡ id)

-- how many types the written groups of the table have
abbrev pub written_types : Table → ℕ
written_types t = written_count (is_entry_at t.types.slots) (type_groups t.groups)

-- the table is written as these records; as many indices are given as types are written, and
-- exactly the ids of the written groups have one; each name has one when it is written
pub record IsEmitted (t : Table) (out : List GroupAt) (x : IndexMap) : Type 0 where
  pub section : IsEmission (table_view t) (section_of out) (value_or_zero x.index)
  pub count : x.count ≡ written_types t
  pub has_index : (id : ℕ) → (IsSome (x.index id) ↔ IsWrittenId (table_view t) id)
  pub complete : (name : NameUse) → ¬ (IsMissing (table_view t) name)

-- of all names in the table's written groups that have no index when they are written, that of `to`
-- by `from` is the first
abbrev pub MissesFirst : Table → ℕ → ℕ → Type 0
MissesFirst t from to =
    (name : NameUse) × IsFirstMissing (table_view t) name × (name.id ≡ from) × (name.named ≡ to)
