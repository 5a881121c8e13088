-- `items` lists the live items.
use Rattle.std.proofs.Common.{◌≡◌, ℕ, zero, suc, ◌+◌, ◌-◌, ◌<◌, ◌≤◌, List, [], ◌∷◌, ◌++◌, length, map, Option, Some, None, All, true, false, refl, sym, ap, subst, ◌∙◌, arith, zero-add, add-zero, append-nil, length-append}
use Rattle.std.specs.List.{AllPairs, Contains}
use Rattle.std.proofs.lemmas.List.{map-append, length-map}
use Rattle.std.proofs.lemmas.List.Elements.{All-nil, All-cons, All-weaker, Contains-append_right}
use Rattle.std.proofs.lemmas.List.Kept.{AllPairs-cons}
use Rattle.walrus_arena.specs.declared.tombstone_arena.Slot.{Slot}
use Rattle.walrus_arena.specs.Arena.{Slots, get, items, items_from}
use Rattle.walrus_arena.specs.Listing.{IsListing}
use Rattle.walrus_arena.specs.Slot.{value_of}

from_zero : (n : ℕ) → n - 0 ≡ n
from_zero n = omega arith

pub longer-by_last : {A : Type 0} (xs ys : List A) (last : A) → xs ≡ ys ++ last ∷ [] → length ys < length xs
longer-by_last xs ys last split = omega (arith, ap length split, length-append ys (last ∷ []))

module _ {T : Type 0} where
  -- the item is live in these slots, of which the first has this id
  record IsLiveFrom (first : ℕ) (s : Slots T) (item : ℕ × T) : Type 0 where
    above : first ≤ item.0
    live : get s (item.0 - first) ≡ Some item.1

  later_slot : (slot : Option T) (rest : Slots T) (first : ℕ) (item : ℕ × T) →
      IsLiveFrom (first + 1) rest item → IsLiveFrom first (slot ∷ rest) item
  later_slot slot rest first item at =
      let above : first ≤ item.0 = omega (arith, at.above) in
      let place : item.0 - first ≡ suc (item.0 - (first + 1)) = omega (arith, at.above) in
      record { above = above; live = ap (get (slot ∷ rest)) place ∙ at.live }

  first_slot : (value : T) (rest : Slots T) (first : ℕ) → IsLiveFrom first (Some value ∷ rest) (first, value)
  first_slot value rest first =
      let place : first - first ≡ 0 = omega arith in
      record { above = omega arith; live = ap (get (Some value ∷ rest)) place }

  live_from : (first : ℕ) (s : Slots T) → All (IsLiveFrom first s) (items_from first s)
  live_from first [] = All-nil (IsLiveFrom first [])
  live_from first (None ∷ rest) = All-weaker (IsLiveFrom (first + 1) rest) (IsLiveFrom first (None ∷ rest))
      (λ item at. later_slot None rest first item at) (items_from (first + 1) rest)
      (live_from (first + 1) rest)
  live_from first (Some value ∷ rest) =
      let others = All-weaker (IsLiveFrom (first + 1) rest) (IsLiveFrom first (Some value ∷ rest)) (λ item at.
      later_slot (Some value) rest first item at) (items_from (first + 1) rest)
      (live_from (first + 1) rest) in
      All-cons (IsLiveFrom first (Some value ∷ rest)) (first, value) (items_from (first + 1) rest)
      (first_slot value rest first) others

  ascending_from : (first : ℕ) (s : Slots T) →
      AllPairs (λ (earlier : ℕ × T) (later : ℕ × T). earlier.0 < later.0) (items_from first s)
  ascending_from first [] = λ i j d before below. absurd (omega arith)
  ascending_from first (None ∷ rest) = ascending_from (first + 1) rest
  ascending_from first (Some value ∷ rest) =
      let above = All-weaker (IsLiveFrom (first + 1) rest) (λ (later : ℕ × T). first < later.0) (λ item at.
      omega (arith, at.above)) (items_from (first + 1) rest) (live_from (first + 1) rest) in
      AllPairs-cons (λ (earlier : ℕ × T) (later : ℕ × T). earlier.0 < later.0) (first, value)
      (items_from (first + 1) rest) above (ascending_from (first + 1) rest)

  moved : (xs : List (ℕ × T)) (a b : ℕ) (value : T) → a ≡ b → Contains xs (a, value) → Contains xs (b, value)
  moved xs a b value same held = subst (λ (k : ℕ). Contains xs (k, value)) same held

  same_item : (a b : ℕ) (x y : T) → a ≡ b → x ≡ y → ◌≡◌ {A = ℕ × T} (a, x) (b, y)
  same_item a b x y same_id same_value = ap {A = ℕ} {B = ℕ × T} (λ k. (k, x)) same_id
      ∙ ap {A = T} {B = ℕ × T} (λ v. (b, v)) same_value

  complete_from : (first : ℕ) (s : Slots T) (k : ℕ) (value : T) → get s k ≡ Some value →
      Contains (items_from first s) (first + k, value)
  complete_from first [] k value live = let none : ⊥ = cc in absurd none
  complete_from first (None ∷ rest) zero value live = let none : ⊥ = cc in absurd none
  complete_from first (None ∷ rest) (suc k) value live =
      moved (items_from (first + 1) rest) (first + 1 + k) (first + suc k) value (omega arith)
      (complete_from (first + 1) rest k value live)
  complete_from first (Some other ∷ rest) zero value live =
      let same : other ≡ value = cc in
      (0, omega arith, same_item first (first + 0) other value (sym (add-zero first)) same)
  complete_from first (Some other ∷ rest) (suc k) value live =
      Contains-append_right ((first, other) ∷ []) (items_from (first + 1) rest) (first + suc k, value)
      (moved (items_from (first + 1) rest) (first + 1 + k) (first + suc k) value (omega arith)
      (complete_from (first + 1) rest k value live))

  pub items_listing : (s : Slots T) → IsListing s (items s)
  items_listing s = record {
    live = All-weaker (IsLiveFrom 0 s) (λ (item : ℕ × T). get s item.0 ≡ Some item.1) (λ item at.
        ap (get s) (sym (from_zero item.0)) ∙ at.live) (items s) (live_from 0 s);
    complete = λ id value live. moved (items s) (0 + id) id value (zero-add id)
        (complete_from 0 s id value live);
    ascending = ascending_from 0 s;
  }

  items_from-append : (first : ℕ) (s t : Slots T) →
      items_from first (s ++ t) ≡ items_from first s ++ items_from (first + length s) t
  items_from-append first [] t = ap (λ k. items_from k t) (sym (add-zero first))
  items_from-append first (None ∷ rest) t =
      let place : first + 1 + length rest ≡ first + length (None ∷ rest) = omega arith in
      items_from-append (first + 1) rest t ∙ ap (λ k. items_from (first + 1) rest ++ items_from k t) place
  items_from-append first (Some value ∷ rest) t =
      let place : first + 1 + length rest ≡ first + length (Some value ∷ rest) = omega arith in
      ap (λ others. (first, value) ∷ others) (items_from-append (first + 1) rest t
      ∙ ap (λ k. items_from (first + 1) rest ++ items_from k t) place)

  -- the items of slots, of which one more is last
  items_from-last : (first : ℕ) (slots rest : List (Slot T)) (last : Slot T) → slots ≡ rest ++ last ∷ [] →
      items_from first (map value_of slots)
      ≡ items_from first (map value_of rest) ++ items_from (first + length rest) (value_of last ∷ [])
  items_from-last first slots rest last split = ap (λ all. items_from first (map value_of all)) split
      ∙ ap (items_from first) (map-append value_of rest (last ∷ []))
      ∙ items_from-append first (map value_of rest) (value_of last ∷ [])
      ∙ ap (λ k. items_from first (map value_of rest) ++ items_from (first + k) (value_of last ∷ []))
      (length-map rest value_of)

  pub items_from-last_dead : (first : ℕ) (slots rest : List (Slot T)) (last : Slot T) → slots ≡ rest ++ last ∷ [] →
      last.is_live ≡ false → items_from first (map value_of slots) ≡ items_from first (map value_of rest)
  items_from-last_dead first slots rest last split dead =
      let none : value_of last ≡ None = rw dead refl in
      items_from-last first slots rest last split
      ∙ ap (λ v. items_from first (map value_of rest) ++ items_from (first + length rest) (v ∷ [])) none
      ∙ append-nil (items_from first (map value_of rest))

  pub items_from-last_live : (first : ℕ) (slots rest : List (Slot T)) (last : Slot T) (id : ℕ) →
      slots ≡ rest ++ last ∷ [] → last.is_live ≡ true → id ≡ first + length rest →
      items_from first (map value_of slots) ≡ items_from first (map value_of rest) ++ (id, last.item) ∷ []
  items_from-last_live first slots rest last id split live place =
      let some : value_of last ≡ Some last.item = rw live refl in
      items_from-last first slots rest last split
      ∙ ap (λ v. items_from first (map value_of rest) ++ items_from (first + length rest) (v ∷ [])) some
      ∙ ap (λ k. items_from first (map value_of rest) ++ (k, last.item) ∷ []) (sym place)
