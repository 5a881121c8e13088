-- What a normal form merges, each map that merges `Single`s of one renamed definition does: so two
-- normal forms of one section merge the same indices.
use Rattle.std.proofs.Common.{◌≡◌, ℕ, zero, suc, ◌<◌, ◌≤◌, ap, sym, ◌∙◌, inl, inr, arith}
use Rattle.std.proofs.lemmas.Bool.{cases_lt, cases_eq}
use Rattle.walrus_ty.specs.Definition.{rename}
use Rattle.walrus_sections.specs.Section.{IndexSpace, NamesBelowEnds, IsSingle}
use Rattle.walrus_sections.specs.NormalForm.{IsKept, IsAnchor, IsNormal}
use Rattle.walrus_sections.proofs.Sections.Lying.{IsLaidOut, in_or_out, ends_before_single}
use Rattle.walrus_sections.proofs.NormalForms.Kept.{recs_kept, single_only}
use Rattle.walrus_ty.proofs.Names.Definitions.{transfer}

-- what m sends to one index, w does
abbrev pub Agree : IndexSpace → (ℕ → ℕ) → (ℕ → ℕ) → Type 0
Agree s m w = (i j : ℕ) → i < s.count → j < s.count → m i ≡ m j → w i ≡ w j

pub kept_agree :
    (s : IndexSpace) (m w : ℕ → ℕ) → Agree s w m → (i : ℕ) → i < s.count → IsKept m i → IsKept w i
kept_agree s m w ga i h k j g e = k j g (ga j i (omega arith) h e)

pub anchor_agree :
    (s : IndexSpace) (m w : ℕ → ℕ) → Agree s w m → (i : ℕ) → i < s.count → IsAnchor s m i →
    IsAnchor s w i
anchor_agree s m w ga i h (inl r) = inl r
anchor_agree s m w ga i h (inr r) = inr (kept_agree s m w ga i h r.0, r.1)

-- w sends two `Single`s to one index where it makes them the same
abbrev pub MergesSame : IndexSpace → (ℕ → ℕ) → Type 0
MergesSame s w = (i j : ℕ) → i < s.count → j < s.count → IsSingle s i → IsSingle s j →
    rename w (s.definition i) ≡ rename w (s.definition j) → w i ≡ w j

pub normal_merges : (s n : IndexSpace) (m : ℕ → ℕ) → IsNormal s n m → MergesSame s m
normal_merges s n m c i j hi hj oi oj e =
    let f : n.definition (m i) ≡ n.definition (m j) = c.same i hi ∙ (e ∙ sym (c.same j hj)) in
    let si = c.single_to_single i hi oi in
    let sj = c.single_to_single j hj oj in
    elim (cases_lt (m i) (m j)) [
      | inl x ↦ absurd (c.singles_differ (m i) (m j) x (c.below j hj) si sj f)
      | inr x ↦ (elim (cases_lt (m j) (m i)) [
        | inl y ↦ absurd (c.singles_differ (m j) (m i) y (c.below i hi) sj si (sym f))
        | inr y ↦ omega arith
      ])
    ]

module _ (s n : IndexSpace) (m w : ℕ → ℕ) (l : IsLaidOut s) (wn : NamesBelowEnds s) (c : IsNormal s n m)
    (d : MergesSame s w) where
  -- an index that shares its image with an earlier one does so under each map that merges
  step : (b j : ℕ) → b < s.count → ((i k : ℕ) → i < b → k < b → m i ≡ m k → w i ≡ w k) → j < b → m j ≡ m b →
      w j ≡ w b
  step b j hb ih g e = elim (in_or_out (s.rec_position b)) [
    | inl o ↦ (
        let oj = single_only s n m l c b j hb (omega arith) o e in
        let eb = ends_before_single s l b j g hb o in
        let end = l.single_end b hb o in
        let same : rename m (s.definition j) ≡ rename m (s.definition b) = sym (c.same j (omega arith))
        ∙ (ap n.definition e ∙ c.same b hb) in
        d j b (omega arith) hb oj o (transfer m w (s.definition j) (s.definition b) (λ k k' p q u. ih k k'
        (let z = wn j (omega arith) k p in omega arith)
        (elim (cases_eq k' b) [
          | inl f ↦ absurd (c.selfs_kept b hb o (rw f at q) j g e)
          | inr f ↦ (let z = wn b hb k' q in omega arith)
        ]) u) same))
    | inr x ↦ absurd (recs_kept s n m l c b hb x j g e)
  ]

  agree_below : (b : ℕ) → b ≤ s.count → (i k : ℕ) → i < b → k < b → m i ≡ m k → w i ≡ w k
  agree_below zero h i k p q e = omega arith
  agree_below (suc b) h i k p q e =
      let ih = agree_below b (omega arith) in
      elim (cases_lt i b) [
        | inl x ↦ (elim (cases_lt k b) [
          | inl y ↦ ih i k x y e
          | inr y ↦ (let f : k ≡ b = omega arith in step b i (omega arith) ih x (e ∙ ap m f) ∙ ap w (sym f))
        ])
        | inr x ↦ (let f : i ≡ b = omega arith in elim (cases_lt k b) [
          | inl y ↦ ap w f ∙ sym (step b k (omega arith) ih y (sym e ∙ ap m f))
          | inr y ↦ ap w (omega arith)
        ])
      ]

  pub agree : Agree s m w
  agree i j h k e = agree_below s.count (omega arith) i j h k e
