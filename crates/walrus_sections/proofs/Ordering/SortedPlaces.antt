-- Places that are sorted, with what they are sorted by: where the run begins, the head, the place.
use Rattle.std.proofs.Common.{◌≡◌, ◌≢◌, ℕ, ◌<◌, List, [], ◌∷◌, map, length, sym, ap, subst, ◌∙◌, arith, Some, Bool, true, false, get_or, eqb, All, Contains}
use Rattle.std.specs.{List.slice_get, List.slice_index, List.filter, List.range_with_len, List.Sorted.IsPermutation, List.Sorted.IsSorted, Cmp.IsTotalOrder, Ordering.nat_cmp, Ordering.ordering_then, Ordering.is_lt}
use Rattle.std.specs.declared.cmp.Ordering.{Ordering}
use Rattle.std.proofs.lemmas.{Bool.eqb-false, Cmp.nat_eq_equiv, List.length-map, List.get_or-map, List.get_or_default, List.Elements.filter_passes, Map.Keys.IsDistinct-IsPermutation, Map.Keys.apart_from_distinct, Option.slice_get_within, Option.slice_get-get_or, Option.get_or_from_slice_get}
use Rattle.std.proofs.lemmas.List.Sorted.{IsPermutation-map, All-permutation, Contains-permutation, sorted_far, ranks_by}
use Rattle.walrus_sections.specs.RunStarts.{StandsBefore, start_of}
use Rattle.walrus_sections.proofs.Ordering.FilteredPlaces.{filter_onto, in_range, kept_distinct}
use Rattle.walrus_sections.proofs.Ordering.NeighboursInOrder.{NotLess, stands}

pub at_place : {X : Type 0} (xs : List X) (i : ℕ) → i < length xs → (x : X) × (slice_get xs i ≡ Some x)
at_place [] i below = absurd (omega (arith, below))
at_place (x ∷ xs) i below = (get_or (x ∷ xs) i x, slice_get-get_or (x ∷ xs) i x below)

module _ {P : Type 0} (place : P → ℕ) (written : ℕ → Bool) (n : ℕ) (ps qs : List P)
    (perm : IsPermutation ps qs) (kept_are : map place ps ≡ filter written (range_with_len 0 n)) where
  abbrev kept : List ℕ
  kept = filter written (range_with_len 0 n)

  abbrev order : List ℕ
  order = map place qs

  pub moved : IsPermutation kept order
  moved = subst (λ (ks : List ℕ). IsPermutation ks order) kept_are (IsPermutation-map place ps qs perm)

  pub each_written : (a : ℕ) → a < length order → written (slice_index order a) ≡ true
  each_written a below = All-permutation (λ (g : ℕ). written g ≡ true) kept order moved
      (filter_passes written (range_with_len 0 n)) a 0 below

  pub onto_written : (g : ℕ) → g < n → written g ≡ true → (a : ℕ) × (a < length order)
      × (slice_index order a ≡ g)
  onto_written g below test =
      let r : _ = filter_onto written (range_with_len 0 n) g g (in_range n g below) test in
      let among : Contains kept g = (
        r.0,
        slice_get_within kept r.0 g r.1,
        get_or_from_slice_get kept r.0 g g r.1,
      ) in
      let k : Contains order g = Contains-permutation kept order g moved among in
      (k.0, k.1, get_or_default order k.0 0 g k.1 ∙ k.2)

  other : (a b : ℕ) → a < b → b < length order → slice_index order a ≢ slice_index order b
  other a b less below = eqb-false (slice_index order a) (slice_index order b)
      (apart_from_distinct eqb order a b 0 (IsDistinct-IsPermutation eqb (λ x y. nat_eq_equiv.symm x y) kept
      order moved (kept_distinct written n)) less below)

  pub place_at : (a : ℕ) (p : P) → slice_get qs a ≡ Some p → slice_index order a ≡ place p
  place_at a p at = get_or-map place qs a p 0 (slice_get_within qs a p at)
      ∙ ap place (get_or_from_slice_get qs a p p at)

  module _ {T : Type 0} (free : ℕ → Bool) (start : P → ℕ) (key_cmp : P → P → Ordering)
      (cmp : T → T → Ordering) (total : IsTotalOrder cmp)
      (starts : All (λ (p : P). start p ≡ start_of free (place p)) ps) where
    -- q compares with p by where the run begins, by the heads y and x and by the place
    abbrev pub ComparesByHead : P → T → P → T → Type 0
    ComparesByHead q y p x = key_cmp q p ≡ ordering_then (nat_cmp (start q) (start p)) (ordering_then (cmp y x)
        (nat_cmp (place q) (place p)))

    start_at : (a : ℕ) (p : P) → slice_get qs a ≡ Some p → start p ≡ start_of free (place p)
    start_at a p at = subst (λ (q : P). start q ≡ start_of free (place q)) (get_or_from_slice_get qs a p p at)
        (All-permutation (λ (q : P). start q ≡ start_of free (place q)) ps qs perm starts a p
        (slice_get_within qs a p at))

    not_less : (a b : ℕ) (p q : P) (x y : T) → slice_get qs a ≡ Some p → slice_get qs b ≡ Some q →
        ComparesByHead q y p x → is_lt (key_cmp q p) ≡ false →
        NotLess (start_of free (place q)) (start_of free (place p)) (cmp y x) (place q) (place p)
    not_less a b p q x y at_a at_b by_head far =
        let from_p : NotLess (start q) (start_of free (place p)) (cmp y x) (place q) (place p) =
        subst (λ (s : ℕ). NotLess (start q) s (cmp y x) (place q) (place p)) (start_at a p at_a)
        (ap is_lt (sym by_head) ∙ far) in
        subst (λ (s : ℕ). NotLess s (start_of free (place p)) (cmp y x) (place q) (place p))
        (start_at b q at_b) from_p

    pub stands_sorted : IsTotalOrder key_cmp → IsSorted key_cmp qs → (a b : ℕ) → a < b →
        (p q : P) (x y : T) → slice_get qs a ≡ Some p → slice_get qs b ≡ Some q → ComparesByHead q y p x →
        StandsBefore cmp free (place p) x (place q) y
    stands_sorted total_key up a b less p q x y at_a at_b by_head =
        let far : is_lt (key_cmp (get_or qs b p) (get_or qs a p)) ≡ false =
        sorted_far (λ (v w : P). is_lt (key_cmp v w)) (ranks_by total_key (λ t. t)) qs up a b
        p (omega (arith, less)) (slice_get_within qs b q at_b) in
        let at_p : is_lt (key_cmp (get_or qs b p) p) ≡ false =
        subst (λ (v : P). is_lt (key_cmp (get_or qs b p) v) ≡ false) (get_or_from_slice_get qs a p p at_a) far
        in
        let at_q : is_lt (key_cmp q p) ≡ false =
        subst (λ (v : P). is_lt (key_cmp v p) ≡ false) (get_or_from_slice_get qs b q p at_b) at_p in
        let below : b < length order = omega (arith, slice_get_within qs b q at_b, length-map qs place) in
        stands cmp total free (place p) (place q) x y
        (λ e. other a b less below (place_at a p at_a ∙ (e ∙ sym (place_at b q at_b))))
        (not_less a b p q x y at_a at_b by_head at_q)
