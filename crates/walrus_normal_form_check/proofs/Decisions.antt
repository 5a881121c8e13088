-- Steps of loops that look for an index at which something fails.
use Rattle.std.proofs.Common.{◌≡◌, ℕ, ◌+◌, ◌<◌, ◌≤◌, ◌↔◌, Bool, true, false, not, refl, sym, subst, arith, inl, inr, IsTrue}
use Rattle.std.proofs.lemmas.Bool.{cases_lt}

-- there is none before i, and a test that sees each finds none at i
pub none_more :
    (P : ℕ → Type 0) (first i : ℕ) (b : Bool) → ((a : ℕ) → first ≤ a → a < i → ¬ P a) →
    (P i → IsTrue b) → b ≡ false → (a : ℕ) → first ≤ a → a < i + 1 → ¬ P a
none_more P first i b before sees fails a low below is = elim (cases_lt a i) [
  | inl w ↦ before a low w is
  | inr w ↦ let e : a ≡ i = omega (arith, w, below) in let yes' : b ≡ true = sees (subst P e is) in
      let k : ⊥ = cc in absurd k
]

-- it holds of each before i, and a test that tells says yes at i
pub each_more :
    (P : ℕ → Type 0) (i : ℕ) (b : Bool) → ((a : ℕ) → a < i → P a) → (IsTrue b → P i) → b ≡ true →
    (a : ℕ) → a < i + 1 → P a
each_more P i b before tells holds a below = elim (cases_lt a i) [
  | inl w ↦ before a w
  | inr w ↦ let e : a ≡ i = omega (arith, w, below) in subst P (sym e) (tells holds)
]

-- the test says no, so what it tells does not hold
pub not_held : {P : Type 0} (b : Bool) → (P → IsTrue b) → b ≡ false → ¬ P
not_held b tells fails is = let yes' : b ≡ true = tells is in let k : ⊥ = cc in absurd k

-- what follows from a test that says no
pub from_false : {P : Type 0} → IsTrue false → P
from_false e = let k : ⊥ = cc in absurd k

-- where the test of i says no, it does not hold of each below n
pub not_each :
    (P : ℕ → Type 0) (n i : ℕ) (b : Bool) → i < n → (P i → IsTrue b) → b ≡ false →
    ((k : ℕ) → k < n → P k) → IsTrue false
not_each P n i b below sees fails all = absurd (not_held b sees fails (all i below))

-- where the test of j says no, it does not hold of each pair below n; it looks at all with j as the later
pub not_each_pair :
    (P : ℕ → ℕ → Type 0) (n j : ℕ) (b : Bool) → j < n → (((i : ℕ) → i < j → P i j) → IsTrue b) →
    b ≡ false → ((i k : ℕ) → i < k → k < n → P i k) → IsTrue false
not_each_pair P n j b below sees fails all = absurd (not_held b sees fails (λ i less. all i j less below))

-- it holds of each pair below j, and a test that tells says yes of all with j as the later
pub each_pair_more :
    (P : ℕ → ℕ → Type 0) (j : ℕ) (b : Bool) → ((i k : ℕ) → i < k → k < j → P i k) →
    (IsTrue b → (i : ℕ) → i < j → P i j) → b ≡ true → (i k : ℕ) → i < k → k < j + 1 → P i k
each_pair_more P j b before tells holds i k less below = elim (cases_lt k j) [
  | inl w ↦ before i k less w
  | inr w ↦ let e : k ≡ j = omega (arith, w, below) in
      subst (λ (n : ℕ). P i n) (sym e) (tells holds i (omega (arith, less, e)))
]

-- a test b of L, where K, J and F hold, tells whether M, which holds, is L
pub as_held :
    {K J F M L : Type 0} (b : Bool) → K → J → F → M → ((IsTrue b → L) × (L → IsTrue b)) →
    (IsTrue b → K → J → F → (M ↔ L)) × ((K → J → F → (M ↔ L)) → IsTrue b)
as_held b k j f m tells = (λ t _ _ _. (λ _. tells.0 t, λ _. m), λ all. tells.1 ((all k j f).0 m))

-- and its opposite tells it where M doesn't hold
pub as_not_held :
    {K J F M L : Type 0} (b : Bool) → K → J → F → ¬ M → ((IsTrue b → L) × (L → IsTrue b)) →
    (IsTrue (not b) → K → J → F → (M ↔ L)) × ((K → J → F → (M ↔ L)) → IsTrue (not b))
as_not_held true k j f fails tells = (
  λ t. let e : ⊥ = cc in absurd e,
  λ all.
      absurd (fails ((all k j f).1 (tells.0 refl))),
)
as_not_held false k j f fails tells = (
  λ t _ _ _.
      (λ m. absurd (fails m), λ l. let e : false ≡ true = tells.1 l in let n : ⊥ = cc in absurd n),
  λ all. refl,
)
