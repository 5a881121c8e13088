-- A map onto the numbers below m comes from at least m numbers, so a normal form has no more
-- definitions than its section.
use Rattle.std.proofs.Common.{◌≡◌, ℕ, zero, suc, ◌<◌, ◌≤◌, ap, sym, ◌∙◌, inl, inr, arith, ◌==◌, cond}
use Rattle.std.proofs.lemmas.Bool.{cases_eq, Decides.nat_tests}
use Rattle.walrus_sections.specs.{Section.IndexSpace, NormalForm.IsNormal}

moved_same : (a m v : ℕ) → ¬ (a ≡ m) → cond (a == m) v a ≡ a
moved_same a m v n = grind (arith, nat_tests)

moved_one : (a m v : ℕ) → a ≡ m → cond (a == m) v a ≡ v
moved_one a m v n = grind (arith, nat_tests)

pub fewer : (n m : ℕ) (f : ℕ → ℕ) → ((p : ℕ) → p < m → (i : ℕ) × (i < n) × (f i ≡ p)) → m ≤ n
fewer n zero f h = omega arith
fewer zero (suc m) f h = let z = (h 0 (omega arith)).1 in omega arith
fewer (suc n) (suc m) f h =
    let g : ℕ → ℕ = λ i. cond (f i == m) (f n) (f i) in
    let r = fewer n m g (λ p b. (
    let x = h p (omega arith) in let x1 = x.1 in let x2 = x.2 in
    let y = h m (omega arith) in let y1 = y.1 in let y2 = y.2 in
    elim (cases_eq x.0 n) [
      | inr ne ↦ (x.0, omega arith, moved_same (f x.0) m (f n) (λ e. omega arith) ∙ x2)
      | inl e ↦ (
          let fe = ap f e in
          let ne : ¬ (y.0 ≡ n) = λ q. (let fq = ap f q in omega arith) in
          (y.0, omega arith, moved_one (f y.0) m (f n) y2 ∙ (sym fe ∙ x2)))
    ])) in omega arith

pub no_more : (s n : IndexSpace) (m : ℕ → ℕ) → IsNormal s n m → n.count ≤ s.count
no_more s n m c = fewer s.count n.count m c.onto
