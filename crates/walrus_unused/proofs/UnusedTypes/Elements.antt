-- What is in a list, also with one more element at its front.
use Rattle.std.proofs.Common.{◌≡◌, ℕ, zero, suc, ◌⊎◌, inl, inr, List, [], ◌∷◌, refl, sym, ap, ◌∙◌, arith, Contains, All, Some}
use Rattle.std.specs.List.{slice_get}
use Rattle.std.proofs.lemmas.Option.{slice_get_within, slice_get-get_or, get_or_from_slice_get}

module _ {A : Type 0} where
  pub contains_none : (x : A) → Contains [] x → ⊥
  contains_none x c = let b = c.1 in omega arith

  pub contains_first : (x : A) (xs : List A) → Contains (x ∷ xs) x
  contains_first x xs = (0, omega arith, refl)

  pub contains_rest : (y : A) (xs : List A) (x : A) → Contains xs x → Contains (y ∷ xs) x
  contains_rest y xs x c = let b = c.1 in (suc c.0, omega arith, c.2)

  pub contains_cases : (y : A) (xs : List A) (x : A) → Contains (y ∷ xs) x → (x ≡ y) ⊎ Contains xs x
  contains_cases y xs x (zero, b, e) = inl (sym e)
  contains_cases y xs x (suc k, b, e) = inr (k, omega (arith, b), e)

  pub all_rest : (P : A → Type 0) (x : A) (xs : List A) → All P (x ∷ xs) → All P xs
  all_rest P x xs all = λ k d b. all (suc k) d (omega (arith, b))

  pub all_first : (P : A → Type 0) (x : A) (xs : List A) → All P (x ∷ xs) → P x
  all_first P x xs all = all 0 x (omega arith)

  pub contains_from_get : (xs : List A) (i : ℕ) (x : A) → slice_get xs i ≡ Some x → Contains xs x
  contains_from_get xs i x h = (i, slice_get_within xs i x h, get_or_from_slice_get xs i x x h)

  pub get_from_contains : (xs : List A) (x : A) → Contains xs x → (i : ℕ) × (slice_get xs i ≡ Some x)
  get_from_contains xs x c = (c.0, slice_get-get_or xs c.0 x c.1 ∙ ap (λ (y : A). Some y) c.2)
