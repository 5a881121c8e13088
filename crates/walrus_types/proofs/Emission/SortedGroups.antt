-- The groups that are written, when they are sorted.
use Rattle.std.proofs.Common.{◌≡◌, ℕ, ◌<◌, List, [], ◌∷◌, ◌++◌, ◌+◌, cond, map, length, sym, ap, subst, ◌∙◌, arith, Some, Option, Bool, true, false, refl, get_or, All}
use Rattle.std.specs.{List.slice_get, List.slice_index, List.filter, List.range_with_len, List.Sorted.IsPermutation, List.Sorted.IsSorted, Cmp.IsTotalOrder, Ordering.nat_cmp, Ordering.ordering_then}
use Rattle.std.specs.declared.cmp.Ordering.{Ordering}
use Rattle.std.proofs.lemmas.{List.length-map, List.get_or-map, List.map-append, List.Sorted.All-permutation, Option.slice_get_within, Option.get_or_from_slice_get}
use Rattle.walrus_ty.specs.Types.{ModuleType}
use Rattle.walrus_types.specs.declared.emit.order.PendingGroup.{PendingGroup}
use Rattle.walrus_sections.specs.RunStarts.{StandsBefore, run_start, start_of}
use Rattle.walrus_types.specs.Steps.PendingGroups.{places_of}
use Rattle.walrus_sections.proofs.Ordering.FilteredPlaces.{kept_more, left_out}
use Rattle.walrus_sections.proofs.Ordering.SortedPlaces as sorted

module _ (free written : ℕ → Bool) (head : ℕ → Option ModuleType) (n : ℕ) where
  abbrev group : ℕ → PendingGroup
  group g = record { start = start_of free g; head = head g; place = g }

  abbrev kept : List ℕ
  kept = filter written (range_with_len 0 n)

  abbrev place : PendingGroup → ℕ
  place p = p.place

  places_back : (ks : List ℕ) → places_of (map group ks) ≡ ks
  places_back [] = refl
  places_back (k ∷ ks) = ap (λ (ns : List ℕ). k ∷ ns) (places_back ks)

  own : (ks : List ℕ) → All (λ (p : PendingGroup). p ≡ group p.place) (map group ks)
  own ks k d lt =
      let at : get_or (map group ks) k d ≡ group (get_or ks k 0) =
      get_or-map group ks k 0 d (omega (arith, lt, length-map ks group)) in
      subst (λ (p : PendingGroup). p ≡ group p.place) (sym at) refl

  module _ (ps : List PendingGroup) (perm : IsPermutation (map group kept) ps) where
    abbrev order : List ℕ
    order = places_of ps

    pub moved : IsPermutation kept order
    moved = sorted.moved place written n (map group kept) ps perm (places_back kept)

    pub each_group : All (λ (p : PendingGroup). p ≡ group p.place) ps
    each_group = All-permutation (λ (p : PendingGroup). p ≡ group p.place) (map group kept) ps perm (own kept)

    pub each_written : (a : ℕ) → a < length order → written (slice_index order a) ≡ true
    each_written = sorted.each_written place written n (map group kept) ps perm (places_back kept)

    pub onto_written : (g : ℕ) → g < n → written g ≡ true → (a : ℕ) × (a < length order)
        × (slice_index order a ≡ g)
    onto_written = sorted.onto_written place written n (map group kept) ps perm (places_back kept)

    place_at : (a : ℕ) (p : PendingGroup) → slice_get ps a ≡ Some p → slice_index order a ≡ p.place
    place_at = sorted.place_at place written n (map group kept) ps perm (places_back kept)

    head_at : (a : ℕ) (p : PendingGroup) → slice_get ps a ≡ Some p → p.head ≡ head (slice_index order a)
    head_at a p at =
        let is : p ≡ group p.place = subst (λ (q : PendingGroup). q ≡ group q.place)
        (get_or_from_slice_get ps a p p at) (each_group a p (slice_get_within ps a p at)) in
        ap (λ (q : PendingGroup). q.head) is ∙ ap head (sym (place_at a p at))

    starts : All (λ (p : PendingGroup). p.start ≡ start_of free p.place) (map group kept)
    starts k d lt = ap (λ (p : PendingGroup). p.start) (own kept k d lt)

    module _ (cmp : ModuleType → ModuleType → Ordering) (total : IsTotalOrder cmp) (o : Option ModuleType →
        Option ModuleType → Ordering) (agree : (x y : ModuleType) → o (Some x) (Some y) ≡ cmp x y) where
      abbrev key_cmp : PendingGroup → PendingGroup → Ordering
      key_cmp p q = ordering_then (nat_cmp p.start q.start) (ordering_then
          (o p.head q.head) (nat_cmp p.place q.place))

      pub stands_sorted : IsTotalOrder key_cmp → IsSorted key_cmp ps → (a b : ℕ) → a < b → b < length order →
          (x y : ModuleType) → head (slice_index order a) ≡ Some x → head (slice_index order b) ≡ Some y →
          StandsBefore cmp free (slice_index order a) x (slice_index order b) y
      stands_sorted total_key up a b less below x y at_a at_b =
          let many : length order ≡ length ps = length-map ps place in
          let p = sorted.at_place ps a (omega (arith, less, below, many)) in
          let q = sorted.at_place ps b (omega (arith, below, many)) in
          let heads : o q.0.head p.0.head ≡ cmp y x =
          ap (λ (t : Option ModuleType). o t p.0.head) (head_at b q.0 q.1 ∙ at_b)
          ∙ (ap (o (Some y)) (head_at a p.0 p.1 ∙ at_a) ∙ agree y x) in
          let before : StandsBefore cmp free p.0.place x q.0.place y =
          sorted.stands_sorted place written n (map group kept) ps perm (places_back kept) free
          (λ (r : PendingGroup). r.start) key_cmp cmp total starts total_key up a b less p.0 q.0 x y p.1 q.1
          (ap (λ (r : Ordering). ordering_then (nat_cmp q.0.start p.0.start) (ordering_then r
          (nat_cmp q.0.place p.0.place))) heads) in
          subst (λ (g : ℕ). StandsBefore cmp free g x (slice_index order b) y) (sym (place_at a p.0 p.1))
          (subst (λ (h : ℕ). StandsBefore cmp free p.0.place x h y) (sym (place_at b q.0 q.1)) before)

-- the next group, where it is written and where it is not

module _ (free written : ℕ → Bool) (head : ℕ → Option ModuleType) (i : ℕ) (ps : List PendingGroup)
    (so_far : ps ≡ map (group free written head i) (filter written (range_with_len 0 i))) where
  abbrev next : ℕ → PendingGroup
  next = group free written head i

  pub group_more : (b : Bool) (run s : ℕ) (h : Option ModuleType) → b ≡ free i → run ≡ run_start free i →
      s ≡ cond b run i → h ≡ head i → written i ≡ true →
      ps ++ record { start = s; head = h; place = i } ∷ [] ≡ map next
      (filter written (range_with_len 0 (i + 1)))
  group_more b run s h is_free is_run is_start is_head test =
      let start : s ≡ start_of free i = is_start
      ∙ (ap (λ (c : Bool). cond c run i) is_free ∙ ap (λ (n : ℕ). cond (free i) n i) is_run) in
      let same : record { start = s; head = h; place = i } ≡ next i =
      ap (λ (n : ℕ). record { start = n; head = h; place = i }) start
      ∙ ap (λ (t : Option ModuleType). record { start = start_of free i; head = t; place = i }) is_head in
      ap (λ (qs : List PendingGroup). qs ++ record { start = s; head = h; place = i } ∷ []) so_far
      ∙ (ap (λ (p : PendingGroup). map next (filter written (range_with_len 0 i)) ++ p ∷ []) same
      ∙ (sym (map-append next (filter written (range_with_len 0 i)) (i ∷ []))
      ∙ ap (map next) (sym (kept_more written i test))))

  pub group_left : written i ≡ false → ps ≡ map next (filter written (range_with_len 0 (i + 1)))
  group_left test = so_far ∙ ap (map next) (sym (left_out written i test))
