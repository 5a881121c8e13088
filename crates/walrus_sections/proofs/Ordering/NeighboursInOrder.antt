-- The order of two groups from the order of their keys.
use Rattle.std.proofs.Common.{◌≡◌, ◌≢◌, ℕ, ◌<◌, ◌≤◌, refl, sym, ap, subst, ◌∙◌, arith, Bool, true, false, ◌⊎◌, inl, inr}
use Rattle.std.specs.Cmp.{IsTotalOrder}
use Rattle.std.specs.Ordering.{nat_cmp, ordering_then, ordering_reverse, is_lt}
use Rattle.std.specs.declared.cmp.Ordering.{Ordering, TheVariants.Less, TheVariants.Equal, TheVariants.Greater}
use Rattle.std.proofs.lemmas.{Bool.cases_lt, Bool.Decides.nat_tests, Map.Keys.ge_from_not_lt}
use Rattle.walrus_sections.specs.RunStarts.{StandsBefore, start_of}
use Rattle.walrus_sections.proofs.Ordering.RunStarts.{together, apart}
use Rattle.walrus_ty.proofs.Basics.{nat_same}

-- that a key of three parts is not less than another, by the first parts, the heads and the last
abbrev pub NotLess : ℕ → ℕ → Ordering → ℕ → ℕ → Type 0
NotLess s t o m n = is_lt (ordering_then (nat_cmp s t) (ordering_then o (nat_cmp m n))) ≡ false

-- where the first parts are the same
tied :
    (s : ℕ) (o : Ordering) (m n : ℕ) → NotLess s s o m n → (o ≡ Greater) ⊎ ((o ≡ Equal) × (n ≤ m))
tied s o m n h = split o (nat_cmp m n) (rw nat_same at h) (ge_from_not_lt m n)
  where
    split : (o r : Ordering) → is_lt (ordering_then o r) ≡ false → (is_lt r ≡ false → n ≤ m) → (o ≡ Greater)
        ⊎ ((o ≡ Equal) × (n ≤ m))
    split Less r f le = cc
    split Equal r f le = inr (refl, le f)
    split Greater r f le = inl refl

-- the first part is not the lesser one
not_below : (s t : ℕ) (o : Ordering) (m n : ℕ) → NotLess s t o m n → s < t → ⊥
not_below s t o m n h below = let e : nat_cmp s t ≡ Less = grind (arith, nat_tests, below) in
    let k : true ≡ false = rw e at h in cc

pub stands :
    {T : Type 0} (cmp : T → T → Ordering) → IsTotalOrder cmp →
    (free : ℕ → Bool) (p q : ℕ) (x y : T) → p ≢ q →
    NotLess (start_of free q) (start_of free p) (cmp y x) q p → StandsBefore cmp free p x q y
stands cmp o free p q x y other last = elim (cases_lt p q) [
  | inl w ↦ inl (
    w,
    λ turned.
        let e : start_of free p ≡ start_of free q = together free p q w turned.all_free in
        elim (tied (start_of free q) (cmp y x) q p
        (subst (λ (s : ℕ). NotLess (start_of free q) s (cmp y x) q p) e last)) [
          | inl h ↦
              (let k : Less ≡ Greater = sym turned.less ∙ h in cc)
          | inr h ↦
              (let k : Less ≡ Equal = sym turned.less ∙ h.0 in cc)
        ],
  )
  | inr w ↦ elim (cases_lt q p) [
    | inl v ↦ elim (apart free q p v) [
      | inr below ↦ absurd (not_below (start_of free q) (start_of free p) (cmp y x) q p last below)
      | inl all ↦
          let e : start_of free q ≡ start_of free p = together free q p v all in
          elim (tied (start_of free p) (cmp y x) q p
          (subst (λ (s : ℕ). NotLess s (start_of free p) (cmp y x) q p) e last)) [
            | inl h ↦
                inr (v, record { all_free = all; less = o.antisymm x y ∙ ap ordering_reverse h })
            | inr h ↦
                absurd (omega (arith, h.1, v))
          ]
    ]
    | inr v ↦ absurd (other (omega (arith, w, v)))
  ]
]
