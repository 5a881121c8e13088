-- What lists contain.
use Rattle.std.proofs.Common.{◌≡◌, ℕ, zero, suc, List, [], ◌∷◌, length, slice_get, Some, ◌⊎◌, inl, inr, refl, sym, subst, arith, Contains}
use Rattle.std.specs.List.{flat_map}
use Rattle.std.proofs.lemmas.List.Elements.{Contains-append_left, Contains-append_right, Contains-append_cases}
use Rattle.std.proofs.lemmas.Option.{slice_get_within, slice_get_read, get_or_from_slice_get}

-- an item of a list is at a place
pub contained_at : {X : Type 0} (xs : List X) (x : X) → Contains xs x → (k : ℕ) × (slice_get xs k ≡ Some x)
contained_at xs x c = (c.0, slice_get_read xs (length xs) c.0 x refl c.1 (sym c.2))

pub contained_from : {X : Type 0} (xs : List X) (x : X) (k : ℕ) → slice_get xs k ≡ Some x → Contains xs x
contained_from xs x k at = (k, slice_get_within xs k x at, get_or_from_slice_get xs k x x at)

pub contained_first : {X : Type 0} (xs : List X) (x : X) → Contains (x ∷ xs) x
contained_first xs x = (0, omega arith, refl)

pub contained_later : {X : Type 0} (xs : List X) (x y : X) → Contains xs y → Contains (x ∷ xs) y
contained_later xs x y c = let w = c.1 in (suc c.0, omega (arith, w), c.2)

pub contained_cases :
    {X : Type 0} (xs : List X) (x y : X) → Contains (x ∷ xs) y → (x ≡ y) ⊎ Contains xs y
contained_cases xs x y (zero, w, e) = inl e
contained_cases xs x y (suc k, w, e) = inr (k, omega (arith, w), e)

pub contained_none : {X : Type 0} (x : X) → Contains [] x → ⊥
contained_none x c = omega (arith, c.1)

-- what is in the lists of the items
module _ {A B : Type 0} (f : A → List B) where
  pub in_flat :
      (xs : List A) (y : B) → Contains (flat_map f xs) y → (x : A) × Contains xs x × Contains (f x) y
  in_flat [] y c = absurd (contained_none y c)
  in_flat (x ∷ xs) y c = elim (Contains-append_cases (f x) (flat_map f xs) y c) [
    | inl k ↦ (x, contained_first xs x, k)
    | inr k ↦ (let r = in_flat xs y k in (r.0, contained_later xs x r.0 r.1, r.2))
  ]

  pub flat_in : (xs : List A) (x : A) (y : B) → Contains xs x → Contains (f x) y → Contains (flat_map f xs) y
  flat_in [] x y c k = absurd (contained_none x c)
  flat_in (z ∷ xs) x y c k = elim (contained_cases xs z x c) [
    | inl e ↦ Contains-append_left (f z) (flat_map f xs) y (subst (λ (a : A). Contains (f a) y) (sym e) k)
    | inr r ↦ Contains-append_right (f z) (flat_map f xs) y (flat_in xs x y r k)
  ]
