-- How each change of the slots shows in the view, and keeps the count.
use Rattle.std.proofs.Common.{◌≡◌, ℕ, ◌+◌, ◌-◌, ◌<◌, List, [], ◌∷◌, map, length, get_or, set, Some, None, is_some, IsSome, count_by, if◌then◌else◌, cond, Bool, true, false, refl, sym, ap, ◌∙◌, arith}
use Rattle.std.specs.List.{AllZip}
use Rattle.std.proofs.lemmas.List.{map-set, length-map, get_or-map, get_or_past}
use Rattle.std.proofs.lemmas.List.Sums.{sum_by-set, sum_by-cons}
use Rattle.std.proofs.lemmas.Grind.{common_steps}
use Rattle.walrus_arena.specs.declared.tombstone_arena.Slot.{Slot}
use Rattle.walrus_arena.specs.Arena.{get, IsLive, IsValueClone, AreClones}
use Rattle.walrus_arena.specs.Slot.{value_of, IsCounted, with_item, IsSlotClone}

module _ {T : Type 0} where
  -- an id with a live slot is within the slots
  pub live_within : (slots : List (Slot T)) (at : ℕ) → IsLive (map value_of slots) at → at < length slots
  live_within slots at live =
      let inside : at < length (map value_of slots) = grind (arith, get_or_past) in
      omega (arith, length-map slots value_of)

  -- the count of live slots after a write
  pub count-set : (slots : List (Slot T)) (at : ℕ) (old new : Slot T) → at < length slots →
      old ≡ get_or slots at old → count_by is_some (map value_of (set slots at new)) + cond
      (is_some (value_of old)) 1 0 ≡ count_by is_some (map value_of slots) + cond (is_some (value_of new)) 1 0
  count-set slots at old new within read =
      let shown : get_or (map value_of slots) at None ≡ value_of old =
      get_or-map value_of slots at old None within ∙ ap value_of (sym read) in
      let counted = sum_by-set (λ o. cond (is_some o) 1 0) (map value_of slots) at (value_of new) None
      (omega (arith, length-map slots value_of)) in
      rw (map-set value_of slots at new, ← shown) counted

  -- what the slot of a live id shows
  pub slot_is_live : (slots : List (Slot T)) (at : ℕ) (slot : Slot T) → at < length slots →
      slot ≡ get_or slots at slot → IsLive (map value_of slots) at → slot.is_live ≡ true
  slot_is_live slots at slot within read live =
      let shown : get_or (map value_of slots) at None ≡ value_of slot =
      get_or-map value_of slots at slot None within ∙ ap value_of (sym read) in
      by_flag slot (rw shown at live)
    where
      by_flag : (slot : Slot T) → IsSome (value_of slot) → slot.is_live ≡ true
      by_flag slot some = grind (arith, common_steps)

  -- a slot that is live keeps showing what is written to it
  value_of-with_item : (slot : Slot T) (w : T) → slot.is_live ≡ true → value_of (with_item slot w) ≡ Some w
  value_of-with_item slot w live = rw live refl

  -- the slot that a reading of a live id gave
  pub record IsReadAt (slots : List (Slot T)) (at : ℕ) (slot : Slot T) : Type 0 where
    pub within : at < length slots
    pub live : slot.is_live ≡ true
    pub shown : get (map value_of slots) at ≡ Some slot.item

  pub read_live : (slots : List (Slot T)) (at : ℕ) (slot : Slot T) → slot ≡ get_or slots at slot →
      IsLive (map value_of slots) at → IsReadAt slots at slot
  read_live slots at slot read live =
      let within = live_within slots at live in
      let is_live = slot_is_live slots at slot within read live in
      let shown : get_or (map value_of slots) at None ≡ value_of slot =
      get_or-map value_of slots at slot None within ∙ ap value_of (sym read) in
      record { within = within; live = is_live; shown = shown ∙ value_of-with_item slot slot.item is_live }

  -- a write of the item of a live slot
  pub shows_written : (slots : List (Slot T)) (at : ℕ) (slot : Slot T) (w : T) → IsReadAt slots at slot →
      map value_of (set slots at (with_item slot w)) ≡ set (map value_of slots) at (Some w)
  shows_written slots at slot w read = map-set value_of slots at (with_item slot w)
      ∙ ap (set (map value_of slots) at) (value_of-with_item slot w read.live)

  pub counts_written : (slots : List (Slot T)) (at live : ℕ) (slot : Slot T) (w : T) →
      slot ≡ get_or slots at slot → IsReadAt slots at slot → IsCounted slots live →
      IsCounted (set slots at (with_item slot w)) live
  counts_written slots at live slot w same read counted =
      let change = count-set slots at slot (with_item slot w) read.within same in
      let before : value_of slot ≡ Some slot.item = value_of-with_item slot slot.item read.live in
      let after : value_of (with_item slot w) ≡ Some w = value_of-with_item slot w read.live in
      omega (arith, rw (before, after) at change)

  -- the slot of a live id after it died
  pub shows_dead : (slots : List (Slot T)) (at : ℕ) (item : T) →
      map value_of (set slots at (record { item = item; is_live = false })) ≡ set (map value_of slots) at None
  shows_dead slots at item = map-set value_of slots at _

  pub counts_dead : (slots : List (Slot T)) (at live : ℕ) (slot : Slot T) (item : T) →
      slot ≡ get_or slots at slot → IsReadAt slots at slot → IsCounted slots live →
      IsCounted (set slots at (record { item = item; is_live = false })) (live - 1)
  counts_dead slots at live slot item same read counted =
      let change = count-set slots at slot (record { item = item; is_live = false }) read.within same in
      let before : value_of slot ≡ Some slot.item = value_of-with_item slot slot.item read.live in
      omega (arith, rw before at change)

-- ---- clones

module _ {T : Type 0} (IsClone : T → T → Type 0) where
  value_clone : (live : Bool) (x y : T) → IsClone x y →
      IsValueClone IsClone (if live then Some x else None) (if live then Some y else None)
  value_clone true x y is = is
  value_clone false x y is = tt

  pub slots_cloned : (slots others : List (Slot T)) → AllZip (IsSlotClone IsClone) slots others →
      AreClones IsClone (map value_of slots) (map value_of others)
  slots_cloned [] [] are = are
  slots_cloned [] (t ∷ others) are = are
  slots_cloned (s ∷ slots) [] are = are
  slots_cloned (s ∷ slots) (t ∷ others) are =
      (rw are.0.0 (value_clone s.is_live s.item t.item are.0.1), slots_cloned slots others are.1)

  as_live : (live : Bool) (x y : T) →
      is_some (if live then Some y else None) ≡ is_some (if live then Some x else None)
  as_live true x y = refl
  as_live false x y = refl

  pub clones_counted : (slots others : List (Slot T)) → AllZip (IsSlotClone IsClone) slots others →
      count_by is_some (map value_of others) ≡ count_by is_some (map value_of slots)
  clones_counted [] [] are = refl
  clones_counted [] (t ∷ others) are = absurd are
  clones_counted (s ∷ slots) [] are = absurd are
  clones_counted (s ∷ slots) (t ∷ others) are =
      let flags : is_some (value_of t) ≡ is_some (value_of s) = rw are.0.0 (as_live s.is_live s.item t.item) in
      let one = ap (λ (b : Bool). cond {A = ℕ} b 1 0) flags in
      omega (
        arith,
        one,
        clones_counted slots others are.1,
        sum_by-cons (λ o. cond (is_some o) 1 0) (value_of t) (map value_of others),
        sum_by-cons (λ o. cond (is_some o) 1 0) (value_of s) (map value_of slots),
      )
