-- A walk whose visitor maps fields maps each sequence as often as the unfolding visits it.
use Rattle.std.proofs.lemmas.Bool.{cases_eq, eq-eqb, ne_eqb, eqb-false}
use Rattle.std.proofs.lemmas.List.Sums.{sum_by-cons, sum_by-append}
use Rattle.std.proofs.lemmas.Map.Keys.{IsDistinct-head, IsDistinct-tail}
use Rattle.std.proofs.Common.{◌≡◌, ℕ, zero, suc, ◌+◌, inl, inr, cond, nat_eq, false, count_by, List, [], ◌∷◌, ◌++◌, get_or, set, get_or-set_other, zero-add, suc-add, refl, sym, ap, ◌∙◌, subst, None}
use Rattle.std.specs.Fn.{iterate}
use Rattle.std.specs.List.{AllByRecursion, IsDistinct}
use Rattle.walrus_ir.specs.Calls.{Full, StepRelation}
use Rattle.ir_instr.specs.Sequence.{Sequence, empty_sequence}
use Rattle.ir_instr.specs.declared.instr_seq_type.InstrSeqType.TheVariants.{Simple}
use Rattle.walrus_functions.specs.Body.{Body, sequence, with_sequence}
use Rattle.walrus_functions.specs.Nesting.{IsReachable}
use Rattle.walrus_traversals_mut.specs.FieldMaps.{FieldMap, MapsFields, IsMapped, mapped_sequence}
use Rattle.walrus_traversals_mut.specs.Steps.{SameNesting}
use Rattle.walrus_traversals_mut.specs.Unfolding.{Unfolds, UnfoldsAll, IsTree, then_below, no_child, then_rest}
use Rattle.walrus_traversals_mut.specs.Walks.{Walks, WalksAll, goes_on, none, next, last_first, last_first_of}
use Rattle.walrus_traversals_mut.proofs.Bodies.{count_after}
use Rattle.walrus_traversals_mut.proofs.Keeping.{last_first_kept}
use Rattle.walrus_traversals_mut.proofs.Mapping.{block_maps, mapped_keeps_children}
use Rattle.walrus_traversals_mut.proofs.Members.{Member}
use Rattle.walrus_traversals_mut.proofs.Unfoldings.{same_unfoldings, unfolding_unique, reached_from_visited, visited_from_reached}

abbrev times : ℕ → List ℕ → ℕ
times id visits = count_by (nat_eq id) visits

times_cons : (q x : ℕ) (xs : List ℕ) → times q (x ∷ xs) ≡ cond (nat_eq q x) 1 0 + times q xs
times_cons q x xs = sum_by-cons (λ y. cond (nat_eq q y) 1 0) x xs

-- what is not in the list is in it no time
none_counted : (q : ℕ) (vs : List ℕ) → (Member q vs → ⊥) → times q vs ≡ 0
none_counted q [] h = refl
none_counted q (x ∷ xs) h =
    times_cons q x xs ∙ ap (λ b. cond b 1 0 + times q xs) (ne_eqb q x (λ e. h (inl e)))
    ∙ ap (λ n. 0 + n) (none_counted q xs (λ m. h (inr m)))

not_again : (x : ℕ) (xs : List ℕ) → AllByRecursion (λ y. nat_eq x y ≡ false) xs → Member x xs → ⊥
not_again x [] a m = m
not_again x (y ∷ ys) a m = elim m [ inl e ↦ eqb-false x y a.0 e | inr n ↦ not_again x ys a.1 n ]

-- what is in a list of distinct numbers is in it once
once_counted : (q : ℕ) (vs : List ℕ) → IsDistinct nat_eq vs → Member q vs → times q vs ≡ 1
once_counted q [] d m = absurd m
once_counted q (x ∷ xs) d m =
    let apart = not_again x xs (IsDistinct-head nat_eq x xs d) in
    let F : ℕ → Type 0 = λ z. Member z xs in
    elim m [
      | inl e ↦ (times_cons q x xs ∙ ap (λ b. cond b 1 0 + times q xs) (eq-eqb q x e)
          ∙ ap (λ n. 1 + n) (none_counted q xs (λ n. apart (subst F e n))))
      | inr n ↦ (times_cons q x xs ∙ ap (λ b. cond b 1 0 + times q xs) (ne_eqb q x (λ e. apart (subst F e n)))
          ∙ ap (λ k. 0 + k) (once_counted q xs (IsDistinct-tail nat_eq x xs d) n))
    ]

iterate_add : {A : Type 0} (g : A → A) (m n : ℕ) (x : A) → iterate g (m + n) x ≡ iterate g n (iterate g m x)
iterate_add g zero n x = ap (λ k. iterate g k x) (zero-add n)
iterate_add g (suc m) n x = ap (λ k. iterate g k x) (suc-add m n) ∙ iterate_add g m n (g x)

at_write : (xs : List Sequence) (i : ℕ) (g : Sequence → Sequence) (d : Sequence) →
    g d ≡ d → get_or (set xs i (g (get_or xs i d))) i d ≡ g (get_or xs i d)
at_write [] i g d h = sym h
at_write (x ∷ xs) zero g d h = refl
at_write (x ∷ xs) (suc i) g d h = at_write xs i g d h

module _ (f : FieldMap) where
  written : (a : Body) (id q : ℕ) → sequence (with_sequence a id (mapped_sequence f (sequence a id))) q ≡
      iterate (mapped_sequence f) (times q (id ∷ [])) (sequence a q)
  written a id q =
      let new = mapped_sequence f (sequence a id) in
      let repeated : ℕ → Sequence = λ n. iterate (mapped_sequence f) n (sequence a q) in
      elim (cases_eq q id) [
        | inl e ↦ (let F : ℕ → Type 0 = λ z. sequence (with_sequence a id new) z ≡ mapped_sequence f
            (sequence a z) in
            subst F (sym e) (at_write a.seqs id (mapped_sequence f) (empty_sequence id (Simple None)) refl)
            ∙ ap repeated (sym (ap (λ b. 0 + cond b 1 0) (eq-eqb q id e))))
        | inr n ↦ (get_or-set_other a.seqs id q new (empty_sequence q (Simple None)) n
            ∙ ap repeated (sym (ap (λ b. 0 + cond b 1 0) (ne_eqb q id n))))
      ]

  one_mapped : (a b : Body) (id : ℕ) → b ≡ with_sequence a id (mapped_sequence f (sequence a id)) →
      IsMapped f (id ∷ []) a b
  one_mapped a b id e = subst (λ (z : Body). IsMapped f (id ∷ []) a z) (sym e) (record {
    sequences = written a id;
    count = count_after a id (mapped_sequence f (sequence a id));
    entry = refl;
    ty = refl;
    name = refl;
  })

  none_mapped : (a : Body) → IsMapped f [] a a
  none_mapped a = record { sequences = λ q. refl; count = refl; entry = refl; ty = refl; name = refl }

  mapped_append : (xs ys : List ℕ) (a b c : Body) → IsMapped f xs a b → IsMapped f ys b c →
      IsMapped f (xs ++ ys) a c
  mapped_append xs ys a b c h k = record {
    sequences = λ q. k.sequences q
        ∙ ap (iterate (mapped_sequence f) (times q ys)) (h.sequences q)
        ∙ sym (iterate_add (mapped_sequence f) (times q xs) (times q ys) (sequence a q))
        ∙ ap (λ n. iterate (mapped_sequence f) n (sequence a q))
        (sym (sum_by-append (λ y. cond (nat_eq q y) 1 0) xs ys));
    count = k.count ∙ h.count;
    entry = k.entry ∙ h.entry;
    ty = k.ty ∙ h.ty;
    name = k.name ∙ h.name;
  }

  -- the sequences that are not reached are as they were
  pub others_kept : (s t : Body) (start : ℕ) (visits : List ℕ) → Unfolds s start visits →
      IsMapped f visits s t → (id : ℕ) → (IsReachable s start id → ⊥) → sequence t id ≡ sequence s id
  others_kept s t start visits u h id n =
      h.sequences id ∙ ap (λ k. iterate (mapped_sequence f) k (sequence s id))
      (none_counted id visits (λ m. n (reached_from_visited s start visits u id m)))

  -- where no sequence is named twice, each that is reached is mapped once
  pub once_mapped : (s t : Body) (start : ℕ) (visits : List ℕ) → Unfolds s start visits →
      IsMapped f visits s t → IsTree s start → (id : ℕ) → IsReachable s start id →
      sequence t id ≡ mapped_sequence f (sequence s id)
  once_mapped s t start visits u h tree id r =
      let e = unfolding_unique s start tree.0 visits tree.1 u in
      let F : List ℕ → Type 0 = λ l. IsDistinct nat_eq l in
      h.sequences id ∙ ap (λ k. iterate (mapped_sequence f) k (sequence s id))
      (once_counted id visits (subst F e tree.2) (visited_from_reached s start visits u id r))

module _ {V : Type 0} (step : StepRelation V) (v : V) (f : FieldMap) (m : MapsFields step v f) where
  same_last_first : (n : ℕ) (s : Sequence) → last_first (iterate (mapped_sequence f) n s) ≡ last_first s
  same_last_first zero s = refl
  same_last_first (suc n) s =
      same_last_first n (mapped_sequence f s) ∙ last_first_kept s (mapped_sequence f s)
      (mapped_keeps_children step v f m s)

  mapped_nesting : (visits : List ℕ) (a b : Body) → IsMapped f visits a b → SameNesting a b
  mapped_nesting visits a b h = record {
    count = h.count;
    children = λ q. ap last_first (h.sequences q) ∙ same_last_first (times q visits) (sequence a q);
  }

  mutual
    pub walk_maps : (s t : V × Body) (q : ℕ) → s.0 ≡ v → Walks step s q Full t → (visits : List ℕ)
        × Unfolds s.1 q visits × (t.0 ≡ v) × IsMapped f visits s.1 t.1
    walk_maps s t q e (goes_on a k b p x w h) =
        let d = block_maps step v f m s k q e w in
        let one = one_mapped f s.1 k.1 q d.1 in
        let same = mapped_nesting (q ∷ []) s.1 k.1 one in
        let r = walks_map k t (last_first_of k.1 q) d.0 h in
        let F : List ℕ → Type 0 = λ l. UnfoldsAll s.1 l r.0 in (
          q ∷ r.0,
          then_below q r.0 (subst F (same.children q)
              (same_unfoldings s.1 k.1 same (last_first_of k.1 q) r.0 r.1)),
          r.2,
          mapped_append f (q ∷ []) r.0 s.1 k.1 t.1 one r.3,
        )

    walks_map : (s t : V × Body) (qs : List ℕ) → s.0 ≡ v → WalksAll step s qs Full t → (visits : List ℕ)
        × UnfoldsAll s.1 qs visits × (t.0 ≡ v) × IsMapped f visits s.1 t.1
    walks_map s t [] e (none a x) = ([], no_child, e, none_mapped f s.1)
    walks_map s t (q ∷ qs) e (next a k b p ps x w h) =
        let i = walk_maps s k q e w in
        let same = mapped_nesting i.0 s.1 k.1 i.3 in
        let r = walks_map k t qs i.2 h in (
          i.0 ++ r.0,
          then_rest q qs i.0 r.0 i.1 (same_unfoldings s.1 k.1 same qs r.0 r.1),
          r.2,
          mapped_append f i.0 r.0 s.1 k.1 t.1 i.3 r.3,
        )
