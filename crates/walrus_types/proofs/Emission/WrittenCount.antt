-- How many types stand in written groups.
use Rattle.std.proofs.Common.{◌≡◌, ℕ, suc, ◌+◌, ◌<◌, ◌≤◌, List, [], ◌∷◌, ◌++◌, take, drop, length, not, refl, sym, ap, ◌∙◌, arith, Bool, true, false, cond, get_or, length-append, take-append-drop, sum_by}
use Rattle.std.specs.List.{list_any, filter, range_with_len, slice_index_or, Sorted.IsPermutation}
use Rattle.std.proofs.lemmas.List.{take_more, map-append, Sorted.sum_by-IsPermutation, Sums.sum_by-cons, Sums.sum_by-append}
use Rattle.walrus_types.specs.declared.table.rec_group.RecGroup.{RecGroup}
use Rattle.walrus_sections.specs.{SlotMap.TypeGroup, Emission.no_group, Emission.group_at, Refusal.written_count, WritingOrders.ids_in, WritingOrders.in_order, WritingOrders.id_count}
use Rattle.walrus_types.specs.TableEmission.{type_groups}

module _ (is_entry : ℕ → Bool) where
  abbrev is_written : List ℕ → Bool
  is_written ids = list_any (λ i. not (is_entry i)) ids

  abbrev size : List ℕ → ℕ
  size ids = cond (is_written ids) (length ids) 0

  abbrev size_of : TypeGroup → ℕ
  size_of g = size g.ids

  count_append : (xs ys : List TypeGroup) → written_count is_entry (xs ++ ys) ≡ written_count is_entry xs +
      written_count is_entry ys
  count_append xs ys = sum_by-append size_of xs ys

  count_one : (g : RecGroup) → written_count is_entry (type_groups (g ∷ [])) ≡ size g.types
  count_one g = let x : TypeGroup = record { ids = g.types; is_explicit = g.is_explicit } in
      sum_by-cons size_of x [] ∙ omega arith

  -- one group more
  count_more : (groups : List RecGroup) (i : ℕ) (g : RecGroup) → i < length groups →
      g ≡ slice_index_or groups i g → written_count is_entry (type_groups (take (i + 1) groups)) ≡
      written_count is_entry (type_groups (take i groups)) + size g.types
  count_more groups i g below is =
      let one : take (i + 1) groups ≡ take i groups ++ g ∷ [] = take_more groups i g below
      ∙ ap (λ (x : RecGroup). take i groups ++ x ∷ []) (sym is) in
      ap (λ (gs : List RecGroup). written_count is_entry (type_groups gs)) one
      ∙ (ap (written_count is_entry) (map-append _ (take i groups) (g ∷ []))
      ∙ (count_append (type_groups (take i groups)) (type_groups (g ∷ []))
      ∙ ap (λ (n : ℕ). written_count is_entry (type_groups (take i groups)) + n) (count_one g)))

  pub count_more_written : (groups : List RecGroup) (i : ℕ) (g : RecGroup) → i < length groups →
      g ≡ slice_index_or groups i g → is_written g.types ≡ true →
      written_count is_entry (type_groups (take (i + 1) groups)) ≡ written_count is_entry
      (type_groups (take i groups)) + length g.types
  count_more_written groups i g below is t = count_more groups i g below is
      ∙ ap (λ (b : Bool). written_count is_entry (type_groups (take i groups)) + cond b (length g.types) 0) t

  pub count_more_left : (groups : List RecGroup) (i : ℕ) (g : RecGroup) → i < length groups →
      g ≡ slice_index_or groups i g → is_written g.types ≡ false →
      written_count is_entry (type_groups (take (i + 1) groups)) ≡ written_count is_entry
      (type_groups (take i groups))
  count_more_left groups i g below is t = count_more groups i g below is
      ∙ (ap (λ (b : Bool). written_count is_entry (type_groups (take i groups)) + cond b (length g.types) 0) t
      ∙ omega arith)

  pub count_part : (groups : List RecGroup) (i : ℕ) →
      written_count is_entry (type_groups (take i groups)) ≤ written_count is_entry (type_groups groups)
  count_part groups i =
      let all : written_count is_entry (type_groups groups) ≡ written_count is_entry
      (type_groups (take i groups)) + written_count is_entry (type_groups (drop i groups)) =
      ap (λ (gs : List RecGroup). written_count is_entry (type_groups gs)) (sym (take-append-drop i groups))
      ∙ (ap (written_count is_entry) (map-append _ (take i groups) (drop i groups))
      ∙ count_append (type_groups (take i groups)) (type_groups (drop i groups))) in
      omega (arith, all)

  -- a sum over a list, by places
  sum_places : {X : Type 0} (f : X → ℕ) (all : List X) (d : X) (b : ℕ) (xs : List X) →
      ((i : ℕ) → i < length xs → get_or all (b + i) d ≡ get_or xs i d) →
      sum_by (λ i. f (get_or all i d)) (range_with_len b (length xs)) ≡ sum_by f xs
  sum_places f all d b [] each = refl
  sum_places f all d b (x ∷ xs) each =
      let e : b + 0 ≡ b = omega arith in
      let here : get_or all b d ≡ x = ap (λ (n : ℕ). get_or all n d) (sym e) ∙ each 0 (omega arith) in
      let rest : sum_by (λ i. f (get_or all i d)) (range_with_len (b + 1) (length xs)) ≡ sum_by f xs =
      sum_places f all d (b + 1) xs (λ i h. (let s : b + 1 + i ≡ b + suc i = omega arith in
      ap (λ (n : ℕ). get_or all n d) s ∙ each (suc i) (omega (arith, h)))) in
      sum_by-cons (λ i. f (get_or all i d)) b (range_with_len (b + 1) (length xs))
      ∙ (omega (arith, ap f here, rest) ∙ sym (sum_by-cons f x xs))

  module _ (gs : List TypeGroup) (w : ℕ → Bool) (tests : (g : ℕ) → w g ≡ is_written (group_at gs g).ids) where
    in_filter : (xs : List ℕ) → id_count gs (filter w xs) ≡ sum_by (λ g. size (group_at gs g).ids) xs
    in_filter [] = refl
    in_filter (g ∷ xs) = by (w g) refl (in_filter xs)
      where
        by : (b : Bool) → b ≡ w g → id_count gs (filter w xs) ≡ sum_by (λ h. size (group_at gs h).ids) xs →
            length (ids_in (in_order gs (cond b (g ∷ filter w xs) (filter w xs)))) ≡ sum_by (λ h.
            size (group_at gs h).ids) (g ∷ xs)
        by true e rest =
            let here : size (group_at gs g).ids ≡ length (group_at gs g).ids =
            ap (λ (b : Bool). cond b (length (group_at gs g).ids) 0) (sym (e ∙ tests g)) in
            omega (
              arith,
              length-append (group_at gs g).ids (ids_in (in_order gs (filter w xs))),
              rest,
              here,
              sum_by-cons (λ h. size (group_at gs h).ids) g xs,
            )
        by false e rest =
            let here : size (group_at gs g).ids ≡ 0 =
            ap (λ (b : Bool). cond b (length (group_at gs g).ids) 0) (sym (e ∙ tests g)) in
            omega (arith, rest, here, sum_by-cons (λ h. size (group_at gs h).ids) g xs)

    in_places : (xs : List ℕ) → id_count gs xs ≡ sum_by (λ g. length (group_at gs g).ids) xs
    in_places [] = refl
    in_places (g ∷ xs) = omega (
      arith,
      length-append (group_at gs g).ids (ids_in (in_order gs xs)),
      in_places xs,
      sum_by-cons (λ h. length (group_at gs h).ids) g xs,
    )

    pub count_of_order : (order : List ℕ) → IsPermutation (filter w (range_with_len 0 (length gs))) order →
        id_count gs order ≡ written_count is_entry gs
    count_of_order order perm =
        let kept : List ℕ = filter w (range_with_len 0 (length gs)) in
        let all : sum_by (λ g. size (group_at gs g).ids) (range_with_len 0 (length gs)) ≡ written_count
        is_entry gs = sum_places (λ (g : TypeGroup). size g.ids) gs no_group 0 gs (λ i h.
        (let e : 0 + i ≡ i = omega arith in ap (λ (n : ℕ). get_or gs n no_group) e)) in
        in_places order ∙ (sum_by-IsPermutation (λ g. length (group_at gs g).ids) kept order perm
        ∙ (sym (in_places kept) ∙ (in_filter (range_with_len 0 (length gs)) ∙ all)))
