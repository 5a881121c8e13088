-- The groups that are to be written, and what they are sorted by.
-- Of this crate's own working; it serves the order in which groups are written. WebAssembly core
-- specification, "Modules", types.
use Rattle.std.specs.Prelude.{◌≡◌, ℕ, ◌==◌, Bool, true, false, List, [], ◌∷◌, All, map, filter, is_some, Option, Some, slice_get}
use Rattle.std.specs.List.{list_all, range_with_len}
use Rattle.walrus_ty.specs.declared.records.EntryAt.{EntryAt}
use Rattle.walrus_ty.specs.declared.records.GroupAt.{GroupAt}
use Rattle.walrus_ty.specs.declared.records.GroupAt.TheVariants as group
use Rattle.walrus_ty.specs.Definition.{names_of}
use Rattle.walrus_ty.specs.Records.{entry_definition}
use Rattle.walrus_normal_form.specs.declared.slot_group.SlotGroup.{SlotGroup}
use Rattle.walrus_normal_form.specs.declared.order.PendingGroup.{PendingGroup}
use Rattle.walrus_normal_form.specs.Steps.ReadSections.{slot_group_at}
use Rattle.walrus_sections.specs.RunStarts.{start_of}

abbrev pub is_own : ℕ → ℕ → Bool
is_own own k = k == own

abbrev pub has_none : {X : Type 0} → List X → Bool
has_none [] = true
has_none (x ∷ xs) = false

abbrev pub is_free_of : ℕ → GroupAt → Bool
is_free_of first (group.Single e) = list_all (is_own first) (names_of (entry_definition e))
is_free_of first (group.Rec es) = has_none es

-- the group is empty, or not explicit with one record that names no slot but its own
abbrev pub is_free : SlotGroup → Bool
is_free g = is_free_of g.first g.group

-- the first record of the group
abbrev pub head : GroupAt → Option EntryAt
head (group.Single e) = Some e
head (group.Rec es) = slice_get es 0

abbrev pub head_at : List SlotGroup → ℕ → Option EntryAt
head_at groups place = head (slot_group_at groups place).group

-- whether the group at this place is free
abbrev pub is_free_at : List SlotGroup → ℕ → Bool
is_free_at groups place = is_free (slot_group_at groups place)

-- whether the group at this place is written
abbrev pub is_written_at : List SlotGroup → ℕ → Bool
is_written_at groups place = is_some (head_at groups place)

-- what the group at this place is sorted by
pub record IsPending (groups : List SlotGroup) (p : PendingGroup) : Type 0 where
  pub start : p.start ≡ start_of (is_free_at groups) p.place
  pub head : head_at groups p.place ≡ Some p.head

abbrev pub places_of : List PendingGroup → List ℕ
places_of ps = map (λ p. p.place) ps

-- of the first n groups those that are written, in their own order
pub record ArePending (groups : List SlotGroup) (n : ℕ) (ps : List PendingGroup) : Type 0 where
  pub places : places_of ps ≡ filter (is_written_at groups) (range_with_len 0 n)
  pub each : All (IsPending groups) ps
