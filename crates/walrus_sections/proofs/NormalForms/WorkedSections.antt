-- The worked sections have the normal forms that they should.
use Rattle.std.proofs.Common.{◌≡◌, ℕ, zero, suc, ◌<◌, [], ◌∷◌, length, slice_index_or, refl, ap, sym, inl, inr, ◌⊎◌, arith, Some, ◌↔◌}
use Rattle.std.specs.declared.cmp.Ordering.TheVariants.{Less}
use Rattle.walrus_ty.specs.Definition.{Definition, Names, names_of, rename, definition_cmp}
use Rattle.walrus_sections.proofs.{NormalForms.SameMap.normal_same, Sections.Rows.laid_out, Moves.Tidy.IsTidy, Moves.Tidy.Rises, Moves.Tidy.normal_itself}
use Rattle.walrus_sections.specs.{Moves.IsRenumberedSwap, Section.IndexSpace, Section.index_space, Section.IsSingle, Section.NamesBelowEnds}
use Rattle.walrus_sections.specs.NormalForm.{IsKept, IsAnchor, AreFree, IsNormalForm, image}
use Rattle.walrus_sections.specs.Examples.{func, int_struct, unordered_pair, ordered_pair, with_repeat, without_repeat, two_loops}

two : (P : ℕ → Type 0) → P 0 → P 1 → (i : ℕ) → i < 2 → P i
two P a b zero h = a
two P a b (suc zero) h = b
two P a b (suc (suc i)) h = absurd (omega arith)

three : (P : ℕ → Type 0) → P 0 → P 1 → P 2 → (i : ℕ) → i < 3 → P i
three P a b c zero h = a
three P a b c (suc zero) h = b
three P a b c (suc (suc zero)) h = c
three P a b c (suc (suc (suc i))) h = absurd (omega arith)

pair_of_two : (P : ℕ → ℕ → Type 0) → P 0 1 → (i j : ℕ) → i < j → j < 2 → P i j
pair_of_two P a i zero h g = absurd (omega arith)
pair_of_two P a zero (suc zero) h g = a
pair_of_two P a (suc i) (suc zero) h g = absurd (omega arith)
pair_of_two P a i (suc (suc j)) h g = absurd (omega arith)

pair_of_three : (P : ℕ → ℕ → Type 0) → P 0 1 → P 0 2 → P 1 2 → (i j : ℕ) → i < j → j < 3 → P i j
pair_of_three P a b c i zero h g = absurd (omega arith)
pair_of_three P a b c zero (suc zero) h g = a
pair_of_three P a b c (suc i) (suc zero) h g = absurd (omega arith)
pair_of_three P a b c zero (suc (suc zero)) h g = b
pair_of_three P a b c (suc zero) (suc (suc zero)) h g = c
pair_of_three P a b c (suc (suc i)) (suc (suc zero)) h g = absurd (omega arith)
pair_of_three P a b c i (suc (suc (suc j))) h g = absurd (omega arith)

no_names :
    (s : IndexSpace) (i k : ℕ) → names_of (s.definition i) ≡ [] → ¬ (Names (s.definition i) k)
no_names s i k e h = let l = ap length e in let z = h.1 in omega arith

not_anchor :
    (s : IndexSpace) (m : ℕ → ℕ) (i : ℕ) → IsSingle s i →
    ((k : ℕ) → Names (s.definition i) k → k ≡ i) → ¬ (IsAnchor s m i)
not_anchor s m i o f (inl x) = let p = x.1 in absurd cc
not_anchor s m i o f (inr x) = x.1.2 (f x.1.0 x.1.1)

neither :
    (s : IndexSpace) (m : ℕ → ℕ) (i j : ℕ) → ¬ (IsAnchor s m i) → ¬ (IsAnchor s m j) →
    IsAnchor s m i ⊎ IsAnchor s m j → ⊥
neither s m i j f g (inl x) = f x
neither s m i j f g (inr x) = g x

-- the order of definitions turns the two
pub turned : IsNormalForm unordered_pair ordered_pair (1 ∷ 0 ∷ [])
turned =
    let s = index_space unordered_pair in
    let n = index_space ordered_pair in
    let m = image (1 ∷ 0 ∷ []) in
    let first : ¬ (IsAnchor s m 0) = not_anchor s m 0 refl (λ k h. absurd (no_names s 0 k refl h)) in
    let second : ¬ (IsAnchor s m 1) = not_anchor s m 1 refl (λ k h. absurd (no_names s 1 k refl h)) in
    record {
      one_each = refl;
      filled = tt;
      laws = record {
        below = two (λ i. m i < 2) (omega arith) (omega arith);
        onto = two (λ p. (i : ℕ) × (i < 2) × (m i ≡ p)) (1, omega arith, refl) (0, omega arith, refl);
        same = two (λ i. n.definition (m i) ≡ rename m (s.definition i)) refl refl;
        rec_to_rec = λ i x h. two (λ i. s.rec_position i ≡ Some x → n.rec_position (m i) ≡ Some x) (λ e.
            absurd cc) (λ e. absurd cc) i h;
        rec_from_rec = λ p x h. two (λ p. n.rec_position p ≡ Some x → (i : ℕ) × (i < 2)
            × (s.rec_position i ≡ Some x)) (λ e. absurd cc) (λ e. absurd cc) p h;
        single_to_single = two (λ i. IsSingle s i → IsSingle n (m i)) (λ o. refl) (λ o. refl);
        singles_differ = pair_of_two (λ p q. IsSingle n p → IsSingle n q →
            ¬ (n.definition p ≡ n.definition q)) (λ o o' e. (let c = ap (λ d. d.composite) e in absurd cc));
        selfs_kept = two (λ i. IsSingle s i → Names (s.definition i) i → IsKept m i) (λ o h.
            absurd (no_names s 0 0 refl h)) (λ o h. absurd (no_names s 1 1 refl h));
        anchors = pair_of_two (λ i j. IsKept m i → IsKept m j → IsAnchor s m i ⊎ IsAnchor s m j → m i < m j)
            (λ k k' a. absurd (neither s m 0 1 first second a));
        free = pair_of_two (λ i j. IsKept m i → IsKept m j → AreFree s m i j →
            (m i < m j ↔ definition_cmp (s.definition i) (s.definition j) ≡ Less)) (λ k k' f.
            ((λ l. absurd (omega arith)), (λ e. absurd cc)));
      };
    }

-- the last goes to the first, and the member of the `Rec` stays
pub merged : IsNormalForm with_repeat without_repeat (0 ∷ 1 ∷ 0 ∷ [])
merged =
    let s = index_space with_repeat in
    let n = index_space without_repeat in
    let m = image (0 ∷ 1 ∷ 0 ∷ []) in
    let last : ¬ (IsKept m 2) = λ k. k 0 (omega arith) refl in
    record {
      one_each = refl;
      filled = tt;
      laws = record {
        below = three (λ i. m i < 2) (omega arith) (omega arith) (omega arith);
        onto = two (λ p. (i : ℕ) × (i < 3) × (m i ≡ p)) (0, omega arith, refl) (1, omega arith, refl);
        same = three (λ i. n.definition (m i) ≡ rename m (s.definition i)) refl refl refl;
        rec_to_rec = λ i x h. three (λ i. s.rec_position i ≡ Some x → n.rec_position (m i) ≡ Some x) (λ e.
            absurd cc) (λ e. e) (λ e. absurd cc) i h;
        rec_from_rec = λ p x h. two (λ p. n.rec_position p ≡ Some x → (i : ℕ) × (i < 3)
            × (s.rec_position i ≡ Some x)) (λ e. absurd cc) (λ e. (1, omega arith, e)) p h;
        single_to_single = three (λ i. IsSingle s i → IsSingle n (m i)) (λ o. refl) (λ o. absurd cc) (λ o.
            refl);
        singles_differ = pair_of_two (λ p q. IsSingle n p → IsSingle n q →
            ¬ (n.definition p ≡ n.definition q)) (λ o o' e. absurd cc);
        selfs_kept = three (λ i. IsSingle s i → Names (s.definition i) i → IsKept m i)
            (λ o h. absurd (no_names s 0 0 refl h)) (λ o h. absurd (no_names s 1 1 refl h)) (λ o h.
            absurd (no_names s 2 2 refl h));
        anchors = pair_of_three (λ i j. IsKept m i → IsKept m j → IsAnchor s m i ⊎ IsAnchor s m j → m i < m j)
            (λ k k' a. omega arith) (λ k k' a. absurd (last k')) (λ k k' a. absurd (last k'));
        free = pair_of_three (λ i j. IsKept m i → IsKept m j → AreFree s m i j →
            (m i < m j ↔ definition_cmp (s.definition i) (s.definition j) ≡ Less))
            (λ k k' f. absurd (f 1 (omega arith) (omega arith) (inl ((0, 0), refl)))) (λ k k' f.
            absurd (last k')) (λ k k' f. absurd (last k'));
      };
    }

one_name : (l k j : ℕ) → j < 1 → slice_index_or (l ∷ []) j k ≡ k → k ≡ l
one_name l k zero h e = sym e
one_name l k (suc j) h e = absurd (omega arith)

-- `Single`s that name themselves are not merged
pub both_kept : IsNormalForm two_loops two_loops (0 ∷ 1 ∷ [])
both_kept =
    let s = index_space two_loops in
    let below_ends : NamesBelowEnds s = two (λ i. (k : ℕ) → Names (s.definition i) k → k < s.end i)
    (λ k h. (let e = one_name 0 k h.0 h.1 h.2 in omega arith))
    (λ k h. (let e = one_name 1 k h.0 h.1 h.2 in omega arith)) in
    let tidy : IsTidy s = pair_of_two (λ p q. IsSingle s p → IsSingle s q →
    ¬ (s.definition p ≡ s.definition q)) (λ o o' e. (let c : 0 ∷ [] ≡ 1 ∷ [] = ap names_of e in absurd cc)) in
    record {
      one_each = refl;
      filled = tt;
      laws = normal_same s s (λ k. k) (image (0 ∷ 1 ∷ [])) (laid_out two_loops) below_ends
          (two (λ i. i ≡ image (0 ∷ 1 ∷ []) i) refl refl)
          (normal_itself s tidy (pair_of_two (Rises s) (λ unfixed. refl)));
    }

-- the two that are out of order change places, and name nothing

nameless : (d : Definition) → names_of d ≡ [] → (k : ℕ) → ¬ (Names d k)
nameless d none k named = let below : named.0 < 0 = omega (arith, named.1, ap length none) in
    absurd (omega (arith, below))

pub swapped : IsRenumberedSwap unordered_pair ordered_pair 0
swapped = record {
  exchanged = record {
    before = [];
    first = int_struct;
    second = func;
    after = [];
    s_is = refl;
    r_is = refl;
    place = refl;
  };
  first_nameless = nameless int_struct refl;
  second_nameless = nameless func refl;
}
