-- Two neighbouring numbers exchanged.
use Rattle.std.proofs.Common.{◌≡◌, ℕ, suc, ◌<◌, ◌≤◌, ap, sym, ◌∙◌, inl, inr, ◌⊎◌, arith}
use Rattle.std.proofs.lemmas.Bool.{cases_eq, Decides.nat_tests}
use Rattle.walrus_sections.specs.Moves.{exchange}

pub record IsOther (i k : ℕ) : Type 0 where
  pub not_first : ¬ (k ≡ i)
  pub not_second : ¬ (k ≡ suc i)
  pub stays : exchange i k ≡ k

pub exchange_first : (i : ℕ) → exchange i i ≡ suc i
exchange_first i = grind (arith, nat_tests)

pub exchange_second : (i : ℕ) → exchange i (suc i) ≡ i
exchange_second i = grind (arith, nat_tests)

exchange_other : (i k : ℕ) → ¬ (k ≡ i) → ¬ (k ≡ suc i) → exchange i k ≡ k
exchange_other i k p q = grind (arith, nat_tests)

-- an index apart from the two keeps its side of any other
pub not_after : (i k a : ℕ) → ¬ (a ≡ i) → ¬ (a ≡ suc i) → exchange i k ≤ a → k ≤ a
not_after i k a p q h = grind (arith, nat_tests)

pub not_before : (i k a : ℕ) → ¬ (a ≡ i) → ¬ (a ≡ suc i) → a ≤ exchange i k → a ≤ k
not_before i k a p q h = grind (arith, nat_tests)

pub no_further : (i k b : ℕ) → ¬ (k ≡ i) → k ≤ b → exchange i k ≤ b
no_further i k b n h = grind (arith, nat_tests)

-- first, second, or other
pub where_is :
    (i k : ℕ) → ((k ≡ i) × (exchange i k ≡ suc i)) ⊎
    (((k ≡ suc i) × (exchange i k ≡ i)) ⊎ IsOther i k)
where_is i k = elim (cases_eq k i) [
  | inl e ↦ inl (e, ap (exchange i) e ∙ exchange_first i)
  | inr p ↦ (elim (cases_eq k (suc i)) [
    | inl e ↦ inr (inl (e, ap (exchange i) e ∙ exchange_second i))
    | inr q ↦ inr (inr (record { not_first = p; not_second = q; stays = exchange_other i k p q }))
  ])
]

pub exchange_twice : (i k : ℕ) → exchange i (exchange i k) ≡ k
exchange_twice i k = elim (where_is i k) [
  | inl x ↦ ap (exchange i) x.1 ∙ (exchange_second i ∙ sym x.0)
  | inr y ↦ (elim y [
    | inl x ↦ ap (exchange i) x.1 ∙ (exchange_first i ∙ sym x.0)
    | inr o ↦ ap (exchange i) o.stays ∙ o.stays
  ])
]

pub exchange_within : (i k n : ℕ) → suc i < n → k < n → exchange i k < n
exchange_within i k n h g = elim (where_is i k) [
  | inl x ↦ (let z = x.1 in omega arith)
  | inr y ↦ (elim y [ inl x ↦ (let z = x.1 in omega arith) | inr o ↦ (let z = o.stays in omega arith) ])
]

pub exchange_one : (i j k : ℕ) → exchange i j ≡ exchange i k → j ≡ k
exchange_one i j k e = sym (exchange_twice i j) ∙ (ap (exchange i) e ∙ exchange_twice i k)

-- only the two themselves change order
pub exchange_order : (i j k : ℕ) → j < k → (exchange i j < exchange i k) ⊎ ((j ≡ i) × (k ≡ suc i))
exchange_order i j k h = elim (where_is i j) [
  | inl x ↦ (elim (where_is i k) [
    | inl y ↦ absurd (let a = x.0 in let b = y.0 in omega arith)
    | inr z ↦ (elim z [
      | inl y ↦ inr (x.0, y.0)
      | inr o ↦ (let a = x.0 in let b = x.1 in let c = o.stays in let d = o.not_second in inl (omega arith))
    ])
  ])
  | inr w ↦ (elim w [
    | inl x ↦ (elim (where_is i k) [
      | inl y ↦ absurd (let a = x.0 in let b = y.0 in omega arith)
      | inr z ↦ (elim z [
        | inl y ↦ absurd (let a = x.0 in let b = y.0 in omega arith)
        | inr o ↦ (let a = x.0 in let b = x.1 in let c = o.stays in inl (omega arith))
      ])
    ])
    | inr p ↦ (let e = p.stays in let n1 = p.not_first in let n2 = p.not_second in elim (where_is i k) [
      | inl y ↦ (let a = y.0 in let b = y.1 in inl (omega arith))
      | inr z ↦ (elim z [
        | inl y ↦ (let a = y.0 in let b = y.1 in inl (omega arith))
        | inr o ↦ (let c = o.stays in inl (omega arith))
      ])
    ])
  ])
]
