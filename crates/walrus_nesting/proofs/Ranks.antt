-- Counting by rank: as ranks fall from each sequence to its children, no path through a body has more
-- sequences than there are. Both walks go by this.
use Rattle.std.proofs.lemmas.Bool.{cases_lt}
use Rattle.std.proofs.Common.{◌≡◌, ℕ, zero, suc, ◌+◌, ◌<◌, ◌≤◌, inl, inr, true, false, cond, ltb, subst, arith}

-- how many of the first n have a rank below t
abbrev pub under : (ℕ → ℕ) → ℕ → ℕ → ℕ
under r t zero = 0
under r t (suc n) = cond (ltb (r n) t) 1 0 + under r t n

pub under_le : (r : ℕ → ℕ) (t n : ℕ) → under r t n ≤ n
under_le r t zero = omega arith
under_le r t (suc n) = let h = under_le r t n in
    elim (ltb (r n) t) as (λ b. cond b 1 0 + under r t n ≤ suc n) [ true ↦ omega arith | false ↦ omega arith ]

one_le : (r : ℕ → ℕ) (s t i : ℕ) → s ≤ t → cond (ltb (r i) s) 1 0 ≤ cond (ltb (r i) t) 1 0
one_le r s t i h = grind arith

pub under_mono : (r : ℕ → ℕ) (s t n : ℕ) → s ≤ t → under r s n ≤ under r t n
under_mono r s t zero h = omega arith
under_mono r s t (suc n) h = let a = under_mono r s t n h in let b = one_le r s t n h in omega arith

at_one : (r : ℕ → ℕ) (i t : ℕ) → r i < t → cond (ltb (r i) (r i)) 1 0 + 1 ≡ cond (ltb (r i) t) 1 0
at_one r i t h = grind arith

last : (r : ℕ → ℕ) (t i n : ℕ) → i ≡ n → r i < t → under r (r i) (suc n) < under r t (suc n)
last r t i n k h =
    let P : ℕ → Type 0 = λ m. under r (r i) (suc m) < under r t (suc m) in
    subst P k (let a = under_mono r (r i) t i (omega arith) in let b = at_one r i t h in omega arith)

-- one that lies below n counts once its rank is passed
pub under_lt : (r : ℕ → ℕ) (t i n : ℕ) → i < n → r i < t → under r (r i) n < under r t n
under_lt r t i zero l h = absurd (omega arith)
under_lt r t i (suc n) l h =
    let b = one_le r (r i) t n (omega arith) in
    elim (cases_lt i n) [
      | inl k ↦ (let a = under_lt r t i n k h in omega arith)
      | inr k ↦ last r t i n (omega arith) h
    ]
