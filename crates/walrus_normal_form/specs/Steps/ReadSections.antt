-- `IsReadAs`: what a section is read into, groups whose records name slots.
-- WebAssembly core specification, "Binary Format", type section.
use Rattle.std.specs.Prelude.{◌≡◌, ℕ, false, true, List, [], ◌∷◌, All, length, map, slice_index_or}
use Rattle.std.specs.List.{range_with_len}
use Rattle.walrus_ty.specs.declared.records.GroupAt.TheVariants as group
use Rattle.walrus_ty.specs.Groups.{Group, Single, Rec, Section}
use Rattle.walrus_ty.specs.Records.{group_of}
use Rattle.walrus_sections.specs.FirstError.{definitions_of}
use Rattle.walrus_sections.specs.NormalForm.{image}
use Rattle.walrus_sections.specs.Section.{IsWellNamed, index_space}
use Rattle.walrus_sections.specs.SlotMap.{IsSlotMap, TypeGroup, read_definition, read_groups}
use Rattle.walrus_normal_form.specs.declared.slot_group.SlotGroup.{SlotGroup}

-- the slots of a group whose first slot is this one
abbrev pub slots_of : ℕ → Group → TypeGroup
slots_of first (Single d) = record { ids = first ∷ []; is_explicit = false }
slots_of first (Rec ds) = record { ids = range_with_len first (length ds); is_explicit = true }

abbrev pub type_group : SlotGroup → TypeGroup
type_group g = slots_of g.first (group_of g.group)

-- stands for a group that is not there
abbrev pub no_slot_group : SlotGroup
no_slot_group = record { first = 0; group = group.Rec [] }

abbrev pub slot_group_at : List SlotGroup → ℕ → SlotGroup
slot_group_at groups place = slice_index_or groups place no_slot_group

-- the section is read into these groups, where index i has the i-th of these slots
pub record IsReadAs (section : Section) (slots : List ℕ) (groups : List SlotGroup) : Type 0 where
  pub well_named : IsWellNamed section
  pub one_each : length slots ≡ (index_space section).count
  pub slot_map : IsSlotMap (index_space section) (image slots)
  -- the groups with slots of their own
  pub grouping : map type_group groups ≡ read_groups 0 (image slots) section
  -- each record is what the section defines at its slot, with slots in place of indices
  pub definitions :
      All
      (λ g. definitions_of (group_of g.group) ≡
      map (read_definition (index_space section) (image slots)) (type_group g).ids)
      groups
