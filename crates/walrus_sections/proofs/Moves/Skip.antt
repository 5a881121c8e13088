-- The numbers that are left once one is gone.
use Rattle.std.proofs.Common.{◌≡◌, ℕ, suc, ◌<◌, ◌≤◌, ◌-◌, ap, ◌∙◌, inl, inr, arith}
use Rattle.std.proofs.lemmas.Bool.{cases_lt, cases_eq, Decides.nat_tests}
use Rattle.walrus_sections.specs.Moves.{skip}
use Rattle.walrus_sections.proofs.Moves.ByIndex.{unskip}

pub skip_gone : (i j : ℕ) → skip i j i ≡ j
skip_gone i j = grind (arith, nat_tests)

pub skip_below : (i j k : ℕ) → k < i → skip i j k ≡ k
skip_below i j k h = grind (arith, nat_tests)

pub skip_above : (i j k : ℕ) → i < k → skip i j k ≡ k - 1
skip_above i j k h = grind (arith, nat_tests)

pub unskip_below : (i k : ℕ) → k < i → unskip i k ≡ k
unskip_below i k h = grind (arith, nat_tests)

pub unskip_above : (i k : ℕ) → i ≤ k → unskip i k ≡ suc k
unskip_above i k h = grind (arith, nat_tests)

pub data Side (i j k : ℕ) : Type 0 where
  gone : k ≡ i → skip i j k ≡ j → Side i j k
  below : k < i → skip i j k ≡ k → Side i j k
  above : i < k → suc (skip i j k) ≡ k → Side i j k

pub side : (i j k : ℕ) → Side i j k
side i j k = elim (cases_lt k i) [
  | inl h ↦ below h (skip_below i j k h)
  | inr h ↦ (elim (cases_eq k i) [
    | inl e ↦ gone e (ap (skip i j) e ∙ skip_gone i j)
    | inr n ↦ (let h' : i < k = omega arith in let z = skip_above i j k h' in above h' (omega arith))
  ])
]

pub data Was (i k : ℕ) : Type 0 where
  lower : k < i → unskip i k ≡ k → Was i k
  higher : i ≤ k → unskip i k ≡ suc k → Was i k

pub was : (i k : ℕ) → Was i k
was i k = elim (cases_lt k i) [ inl h ↦ lower h (unskip_below i k h) | inr h ↦ higher h (unskip_above i k h) ]

pub skip_unskip : (i j k : ℕ) → skip i j (unskip i k) ≡ k
skip_unskip i j k = elim (was i k) [
  | lower h e ↦ ap (skip i j) e ∙ skip_below i j k h
  | higher h e ↦ (let z = skip_above i j (suc k) (omega arith) in ap (skip i j) e ∙ omega arith)
]

pub unskip_skip : (i j k : ℕ) → ¬ (k ≡ i) → unskip i (skip i j k) ≡ k
unskip_skip i j k n = elim (side i j k) [
  | gone e f ↦ absurd (n e)
  | below h f ↦ ap (unskip i) f ∙ unskip_below i k h
  | above h f ↦ (let z = unskip_above i (skip i j k) (omega arith) in omega arith)
]

pub unskip_rises : (i x y : ℕ) → x < y → unskip i x < unskip i y
unskip_rises i x y h = elim (was i x) [
  | lower g e ↦ (elim (was i y) [ lower g' e' ↦ omega arith | higher g' e' ↦ omega arith ])
  | higher g e ↦ (elim (was i y) [ lower g' e' ↦ omega arith | higher g' e' ↦ omega arith ])
]

pub unskip_not : (i k : ℕ) → ¬ (unskip i k ≡ i)
unskip_not i k f = elim (was i k) [ lower g e ↦ (omega arith) | higher g e ↦ (omega arith) ]

-- what stands before an index that stays, stays before it
pub skip_rises : (i j x k : ℕ) → j < i → ¬ (k ≡ i) → x < k → skip i j x < skip i j k
skip_rises i j x k ji n h = elim (side i j k) [
  | gone e f ↦ absurd (n e)
  | below g f ↦ (elim (side i j x) [
    | gone e' f' ↦ absurd (omega arith)
    | below g' f' ↦ omega arith
    | above g' f' ↦ absurd (omega arith)
  ])
  | above g f ↦ (elim (side i j x) [
    | gone e' f' ↦ omega arith
    | below g' f' ↦ omega arith
    | above g' f' ↦
        omega arith
  ])
]
