-- Groups whose records are written one after the other: the indices that their slots get, and the
-- records with each slot replaced by its index.
-- Of this crate's own working; it serves the writing of a type section. WebAssembly core
-- specification, "Modules", types.
use Rattle.std.specs.Prelude.{◌≡◌, ℕ, ◌+◌, ◌<◌, ◌^◌, All, List, length, map, take, slice_get, Contains, Some}
use Rattle.walrus_ty.specs.Definition.{Definition, Names, rename}
use Rattle.walrus_ty.specs.Groups.{Group, Single, Rec}
use Rattle.walrus_ty.specs.Records.{group_of}
use Rattle.walrus_sections.specs.FirstError.{definitions_of}
use Rattle.walrus_normal_form.specs.declared.slot_group.SlotGroup.{SlotGroup}
use Rattle.walrus_normal_form.specs.Steps.ReadSections.{slot_group_at, type_group}
use Rattle.walrus_sections.specs.WritingOrders.{IsApart, ids_in}

-- the groups at these places
abbrev pub groups_at : List SlotGroup → List ℕ → List SlotGroup
groups_at groups places = map (slot_group_at groups) places

-- the slots of these groups in order
abbrev pub slots_in : List SlotGroup → List ℕ
slots_in gs = ids_in (map type_group gs)

-- each of these slots has its place among them as its new index
abbrev pub AreNumbered : List ℕ → List ℕ → Type 0
AreNumbered slots new_index =
    (k slot : ℕ) → slice_get slots k ≡ Some slot → slice_get new_index slot ≡ Some k

-- the group with each name k replaced by m k
abbrev pub rename_group : (ℕ → ℕ) → Group → Group
rename_group m (Single d) = Single (rename m d)
rename_group m (Rec ds) = Rec (map (rename m) ds)

-- a definition of the group names k
abbrev pub GroupNames : Group → ℕ → Type 0
GroupNames g k =
    (d : Definition) × Contains (definitions_of g) d × Names d k

-- what a group names is a slot of it or of a group before it
abbrev pub NameSlotsBefore : List SlotGroup → Type 0
NameSlotsBefore gs =
    (a k : ℕ) → a < length gs → GroupNames (group_of (slot_group_at gs a).group) k →
    Contains (slots_in (take (a + 1) gs)) k

-- the groups at these places can be written one after the other, where there are so many slots
pub record CanBeWritten (groups : List SlotGroup) (places : List ℕ) (count : ℕ) : Type 0 where
  -- each of these places is one of the list, and none comes twice
  pub within : All (λ place. place < length groups) places
  pub distinct : IsApart places
  -- no slot comes twice, and 32 bits count them
  pub apart : IsApart (slots_in (groups_at groups places))
  pub below : All (λ slot. slot < count) (slots_in (groups_at groups places))
  pub few : length (slots_in (groups_at groups places)) < 2 ^ 32
  pub named : NameSlotsBefore (groups_at groups places)
