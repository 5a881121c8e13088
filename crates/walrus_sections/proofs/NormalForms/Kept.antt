-- The indices that a normal form keeps.
use Rattle.std.proofs.Common.{◌≡◌, ℕ, zero, suc, ◌<◌, ◌≤◌, refl, ap, ◌∙◌, inl, inr, ◌⊎◌, arith, Some}
use Rattle.std.proofs.lemmas.Bool.{cases_lt, cases_eq}
use Rattle.walrus_sections.specs.Section.{IndexSpace, IsSingle, IsInRec}
use Rattle.walrus_sections.specs.NormalForm.{IsKept, IsAnchor, AreFree, IsNormal}
use Rattle.walrus_sections.proofs.Sections.Lying.{IsLaidOut, in_or_out, same_rec_position}
use Rattle.walrus_ty.specs.Definition.{Names}

-- the first index below b that f sends to v
index-first : (f : ℕ → ℕ) (v b : ℕ) →
    ((j : ℕ) × (j < b) × (f j ≡ v) × ((k : ℕ) → k < j → ¬ (f k ≡ v))) ⊎
    ((k : ℕ) → k < b → ¬ (f k ≡ v))
index-first f v zero = inr (λ k h e. omega arith)
index-first f v (suc b) = elim (index-first f v b) [
  | inl r ↦ (let z = r.1 in inl (r.0, omega arith, r.2, r.3))
  | inr h ↦ (elim (cases_eq (f b) v) [
    | inl e ↦ inl (b, omega arith, e, h)
    | inr d ↦ inr (λ k i e. elim (cases_lt k b) [
      | inl g ↦ h k g e
      | inr g ↦
          (let w : k ≡ b = omega arith in d (rw w at e))
    ])
  ])
]

-- each index shares its image with a kept one that is not later
pub kept_one : (m : ℕ → ℕ) (i : ℕ) → (j : ℕ) × (j ≤ i) × IsKept m j × (m j ≡ m i)
kept_one m i = elim (index-first m (m i) (suc i)) [
  | inl r ↦ (let z = r.1 in (r.0, omega arith, (λ k h e. r.3 k h (e ∙ r.2)), r.2))
  | inr h ↦ absurd (h i (omega arith) refl)
]

-- a kept index that is no anchor names no other index
pub own_name :
    (s : IndexSpace) (m : ℕ → ℕ) (i k : ℕ) → IsKept m i → ¬ (IsAnchor s m i) →
    Names (s.definition i) k → k ≡ i
own_name s m i k ki na nk = elim (cases_eq k i) [ inl e ↦ e | inr f ↦ absurd (na (inr (ki, (k, nk, f)))) ]

module _ (s n : IndexSpace) (m : ℕ → ℕ) (l : IsLaidOut s) (c : IsNormal s n m) where
  -- a member of a `Rec` shares its image with no earlier index
  pub recs_kept : (i : ℕ) → i < s.count → IsInRec s i → IsKept m i
  recs_kept i h x j g e = elim (in_or_out (s.rec_position j)) [
    | inl o ↦ (let a = c.single_to_single j (omega arith) o in let b = c.rec_to_rec i x.0 h x.1 in
        let f = ap n.rec_position e in absurd cc)
    | inr y ↦ (let a = c.rec_to_rec j y.0 (omega arith) y.1 in let b = c.rec_to_rec i x.0 h x.1 in
        let f = ap n.rec_position e in
        let z : s.rec_position j ≡ Some x.0 = cc in
        let k = same_rec_position s l j i x.0 (omega arith) h z x.1 in omega arith)
  ]

  -- what shares the image of a `Single` is a `Single`
  pub single_only : (i j : ℕ) → i < s.count → j < s.count → IsSingle s i → m j ≡ m i → IsSingle s j
  single_only i j hi hj o e = elim (in_or_out (s.rec_position j)) [
    | inl p ↦ p
    | inr y ↦ (let a = c.rec_to_rec j y.0 hj y.1 in let b = c.single_to_single i hi o in let f =
        ap n.rec_position e in absurd cc)
  ]

  pub anchor_kept : (i : ℕ) → i < s.count → IsAnchor s m i → IsKept m i
  anchor_kept i h (inl r) = recs_kept i h r
  anchor_kept i h (inr r) = r.0

  -- where images do not rise, no anchor lies between
  pub free_if_not : (i j : ℕ) → i < j → j < s.count → IsKept m i → IsKept m j → m j ≤ m i → AreFree s m i j
  free_if_not i j h b ki kj over a p q an = elim (cases_lt i a) [
    | inl g ↦ (elim (cases_lt a j) [
      | inl g' ↦ (let ka = anchor_kept a (omega arith) an in
          let x = c.anchors i a g (omega arith) ki ka (inr an) in
          let y = c.anchors a j g' b ka kj (inl an) in omega arith)
      | inr g' ↦ (let e : a ≡ j = omega arith in let x = c.anchors i j h b ki kj (inr (rw e at an)) in
          omega arith)
    ])
    | inr g ↦ (let e : a ≡ i = omega arith in let x = c.anchors i j h b ki kj (inl (rw e at an)) in
        omega arith)
  ]
