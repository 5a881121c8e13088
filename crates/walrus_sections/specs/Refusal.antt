-- `IsFirstMissing`, when groups can't be written: some type names one that has no index when its
-- own group is written; and `written_count`, which can be too great. A table is seen as a
-- `TableView`.
-- WebAssembly core specification, "Validation", "Modules", types: a group is valid where it names
-- types of its own and of the groups before it. The refusals are of this crate's own.
use Rattle.std.specs.Prelude.{◌≡◌, ℕ, ◌<◌, ◌⊎◌, Bool, not, if◌then◌else◌, List, length, slice_get, Some, sum_by}
use Rattle.std.specs.List.{list_any}
use Rattle.walrus_ty.specs.Definition.{names_of}
use Rattle.walrus_sections.specs.SlotMap.{TypeGroup}
use Rattle.walrus_sections.specs.Emission.{TableView, IsMember, IsWritten, IsWrittenBefore}

-- A name in a group: the id at this place of the group names the id `named`, at this position of
-- its definition.
pub record NameUse : Type 0 where
  pub group : ℕ
  pub place : ℕ
  pub position : ℕ
  pub id : ℕ
  pub named : ℕ

-- the id is in the group, or in a written group before it
pub record HasIndexBy (table : TableView) (group id : ℕ) : Type 0 where
  pub home : ℕ
  pub place : ℕ
  pub written : IsWritten table home
  pub member : IsMember table.groups home place id
  pub by : (home ≡ group) ⊎ IsWrittenBefore table home group

-- the name is in a written group, and has no index when that group is written
pub record IsMissing (table : TableView) (name : NameUse) : Type 0 where
  pub written : IsWritten table name.group
  pub member : IsMember table.groups name.group name.place name.id
  pub used : slice_get (names_of (table.definition name.id)) name.position ≡ Some name.named
  pub missing : ¬ (HasIndexBy table name.group name.named)

-- of two names, the first is written before the second
abbrev pub NamePrecedes : TableView → NameUse → NameUse → Type 0
NamePrecedes table first second =
    IsWrittenBefore table first.group second.group ⊎ ((first.group ≡ second.group) ×
    ((first.place < second.place) ⊎ ((first.place ≡ second.place) ×
    (first.position < second.position))))

-- of all names that have no index when they are written, this is the first
pub record IsFirstMissing (table : TableView) (name : NameUse) : Type 0 where
  pub is : IsMissing table name
  pub first : (other : NameUse) → IsMissing table other → ¬ (NamePrecedes table other name)

-- how many members the written groups have
abbrev pub written_count : (ℕ → Bool) → List TypeGroup → ℕ
written_count is_entry groups =
    sum_by
    (λ (group : TypeGroup). if list_any (λ id. not (is_entry id)) group.ids then length group.ids
    else 0) groups
