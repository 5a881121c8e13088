-- Lists with one more element, or another at a place.
use Rattle.std.proofs.Common.{◌≡◌, ℕ, zero, suc, ◌<◌, ◌⊎◌, inl, inr, List, [], ◌∷◌, ◌++◌, length, refl, sym, ap, subst, ◌∙◌, arith, Some, Contains, All, get_or, slice_set, nat_eq, Bool, true, false}
use Rattle.std.specs.List.{slice_get, IsDistinct, AllByRecursion}
use Rattle.std.proofs.lemmas.Option.{slice_get_within, slice_get-get_or, get_or_from_slice_get}
use Rattle.std.proofs.lemmas.Bool.{eqb-true, eq-eqb}

module _ {A : Type 0} where
  pub get_left : (xs ys : List A) (i : ℕ) (x : A) → slice_get xs i ≡ Some x → slice_get (xs ++ ys) i ≡ Some x
  get_left [] ys i x h = absurd (cc)
  get_left (y ∷ xs) ys zero x h = h
  get_left (y ∷ xs) ys (suc i) x h = get_left xs ys i x h

  pub get_last : (xs : List A) (x : A) → slice_get (xs ++ x ∷ []) (length xs) ≡ Some x
  get_last [] x = refl
  get_last (y ∷ xs) x = get_last xs x

  pub get_cases : (xs : List A) (y : A) (i : ℕ) (x : A) → slice_get (xs ++ y ∷ []) i ≡ Some x →
      (slice_get xs i ≡ Some x) ⊎ ((i ≡ length xs) × (x ≡ y))
  get_cases [] y zero x h = inr (refl, cc)
  get_cases [] y (suc i) x h = absurd (cc)
  get_cases (z ∷ xs) y zero x h = inl h
  get_cases (z ∷ xs) y (suc i) x h = elim (get_cases xs y i x h) [
    | inl k ↦ inl k
    | inr k ↦ inr (ap suc k.0, k.1)
  ]

  -- what stands at a place within
  pub get_at : (xs : List A) (i : ℕ) → i < length xs → (x : A) × (slice_get xs i ≡ Some x)
  get_at [] i h = absurd (omega arith)
  get_at (x ∷ xs) zero h = (x, refl)
  get_at (x ∷ xs) (suc i) h = get_at xs i (omega arith)

  pub set_here : (xs : List A) (i : ℕ) (x y : A) → slice_get xs i ≡ Some x →
      slice_get (slice_set xs i y) i ≡ Some y
  set_here [] i x y h = absurd (cc)
  set_here (z ∷ xs) zero x y h = refl
  set_here (z ∷ xs) (suc i) x y h = set_here xs i x y h

  pub set_there : (xs : List A) (i j : ℕ) (y : A) → (j ≡ i → ⊥) →
      slice_get (slice_set xs i y) j ≡ slice_get xs j
  set_there [] i j y h = refl
  set_there (z ∷ xs) zero zero y h = absurd (h refl)
  set_there (z ∷ xs) zero (suc j) y h = refl
  set_there (z ∷ xs) (suc i) zero y h = refl
  set_there (z ∷ xs) (suc i) (suc j) y h = set_there xs i j y (λ e. h (ap suc e))

  pub contains_from_get : (xs : List A) (i : ℕ) (x : A) → slice_get xs i ≡ Some x → Contains xs x
  contains_from_get xs i x h = (i, slice_get_within xs i x h, get_or_from_slice_get xs i x x h)

  pub get_from_contains : (xs : List A) (x : A) → Contains xs x → (i : ℕ) × (slice_get xs i ≡ Some x)
  get_from_contains xs x c = (c.0, slice_get-get_or xs c.0 x c.1 ∙ ap (λ (y : A). Some y) c.2)

  pub all_at : (P : A → Type 0) (xs : List A) (i : ℕ) (x : A) → All P xs → slice_get xs i ≡ Some x → P x
  all_at P xs i x all h = subst P (get_or_from_slice_get xs i x x h) (all i x (slice_get_within xs i x h))

  pub all_from_get : (P : A → Type 0) (xs : List A) → ((i : ℕ) (x : A) → slice_get xs i ≡ Some x → P x) →
      All P xs
  all_from_get P xs each = λ i d h. each i (get_or xs i d) (slice_get-get_or xs i d h)

-- a list is distinct where no id stands at two places
apart : (x : ℕ) (xs : List ℕ) → ((u : ℕ) → slice_get xs u ≡ Some x → ⊥) →
    AllByRecursion (λ y. nat_eq x y ≡ false) xs
apart x [] none = tt
apart x (y ∷ xs) none = (by_test (nat_eq x y) refl, apart x xs (λ u h. none (suc u) h))
  where
    by_test : (b : Bool) → b ≡ nat_eq x y → b ≡ false
    by_test false e = refl
    by_test true e = absurd (none 0 (ap (λ (n : ℕ). Some n) (sym (eqb-true x y (sym e)))))

pub distinct_from_once : (xs : List ℕ) →
    ((i j id : ℕ) → slice_get xs i ≡ Some id → slice_get xs j ≡ Some id → i ≡ j) → IsDistinct nat_eq xs
unfolding IsDistinct
distinct_from_once [] once = tt
distinct_from_once (x ∷ xs) once = (
  apart x xs (λ u h. (let e : suc u ≡ 0 = once (suc u) 0 x h refl in omega (arith, e))),
  distinct_from_once xs (λ i j id h k. (let e : suc i ≡ suc j = once (suc i) (suc j) id h k in
      omega (arith, e))),
)

first_alone : (x : ℕ) (xs : List ℕ) (j : ℕ) →
    AllByRecursion (λ y. nat_eq x y ≡ false) xs → slice_get xs j ≡ Some x → ⊥
first_alone x [] j a h = absurd (cc)
first_alone x (y ∷ xs) zero a h = let e : x ≡ y = cc in let t = eq-eqb x y e in let f = a.0 in let no : ⊥ =
    cc in no
first_alone x (y ∷ xs) (suc j) a h = first_alone x xs j a.1 h

pub once_from_distinct : (xs : List ℕ) →
    IsDistinct nat_eq xs → (i j id : ℕ) → slice_get xs i ≡ Some id → slice_get xs j ≡ Some id → i ≡ j
unfolding IsDistinct
once_from_distinct [] d i j id h k = absurd (cc)
once_from_distinct (x ∷ xs) d zero zero id h k = refl
once_from_distinct (x ∷ xs) d zero (suc j) id h k = let e : id ≡ x = cc in
    absurd (first_alone x xs j d.0 (k ∙ ap (λ (n : ℕ). Some n) e))
once_from_distinct (x ∷ xs) d (suc i) zero id h k = let e : id ≡ x = cc in
    absurd (first_alone x xs i d.0 (h ∙ ap (λ (n : ℕ). Some n) e))
once_from_distinct (x ∷ xs) d (suc i) (suc j) id h k = ap suc (once_from_distinct xs d.1 i j id h k)
