-- `IsReadSoFar`: what a section that is read group by group is read into. As long as groups come,
-- the record of a lone type is in a map, by which an equal one finds it, and not in its group.
-- WebAssembly core specification, "Binary Format", type section.
use Rattle.std.specs.Prelude.{◌≡◌, ◌↔◌, ℕ, List, map, Option, Some}
use Rattle.std.specs.List.{slice_get}
use Rattle.std.specs.Map.{lookup}
use Rattle.walrus_ty.specs.contracts.records.EntryAtPartialEq.TheImpl as equality
use Rattle.walrus_ty.specs.declared.records.EntryAt.{EntryAt}
use Rattle.walrus_ty.specs.declared.records.GroupAt.TheVariants.{Single, Rec}
use Rattle.walrus_ty.specs.Groups.{Section}
use Rattle.walrus_normal_form.specs.declared.read.Reader.{Reader}
use Rattle.walrus_normal_form.specs.declared.slot_group.SlotGroup.{SlotGroup}
use Rattle.walrus_normal_form.specs.Steps.ReadSections.{IsReadAs}

-- the place that a map from records to places has for a record
abbrev pub place_of : List (EntryAt × ℕ) → EntryAt → Option ℕ
place_of lone entry = lookup ((equality.ghosts).eq entry) lone

-- the group at this place is the lone type with this record
abbrev pub IsLoneAt : List SlotGroup → ℕ → EntryAt → Type 0
IsLoneAt groups place entry =
    (first : ℕ) × (slice_get groups place ≡ Some (record { first = first; group = Single entry }))

-- the group at this place is a `Rec`
abbrev pub IsRecAt : List SlotGroup → ℕ → SlotGroup → Type 0
IsRecAt groups place g =
    (entries : List EntryAt) × (slice_get groups place ≡ Some g) × (g.group ≡ Rec entries)

-- the section is read into these slots and groups, but the records of lone types are in the map,
-- each with the place of its group
pub record IsReadSoFar (section : Section) (slots : List ℕ) (groups : List SlotGroup)
    (lone : List (EntryAt × ℕ)) : Type 0 where
  -- the groups with these records
  pub whole : List SlotGroup
  pub read : IsReadAs section slots whole
  -- the groups without them have the same slots, and the same `Rec`s
  pub firsts : map (λ g. g.first) groups ≡ map (λ g. g.first) whole
  pub recs :
      (place : ℕ) (g : SlotGroup) → IsRecAt whole place g → slice_get groups place ≡ Some g
  -- the map has the place of each of these records, and no other
  pub lone_places :
      (entry : EntryAt) (place : ℕ) →
      (place_of lone entry ≡ Some place) ↔ IsLoneAt whole place entry

-- the reader has read the section
abbrev pub IsReaderOf : Section → Reader → Type 0
IsReaderOf section reader =
    IsReadSoFar section reader.slots.items reader.groups.items reader.lone.entries
