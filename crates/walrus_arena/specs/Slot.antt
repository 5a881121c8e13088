-- How an arena lays out a slot. No public clause cites this module.
use Rattle.std.specs.Prelude.{◌≡◌, ℕ, List, map, Option, Some, None, is_some, count_by, if◌then◌else◌}
use Rattle.walrus_arena.specs.declared.tombstone_arena.Slot.{Slot}

module _ {T : Type 0} where
  -- the value of a slot, if it is live
  abbrev pub value_of : Slot T → Option T
  value_of s = if s.is_live then Some s.item else None

  -- the count is that of the live slots
  abbrev pub IsCounted : List (Slot T) → ℕ → Type 0
  IsCounted slots live = live ≡ count_by is_some (map value_of slots)

  -- the slot with this item
  abbrev pub with_item : Slot T → T → Slot T
  with_item s item = record s { item = item }

  -- the second slot is as live as the first, and its item is a clone
  abbrev pub IsSlotClone : (T → T → Type 0) → Slot T → Slot T → Type 0
  IsSlotClone IsClone s t = (t.is_live ≡ s.is_live) × IsClone s.item t.item
