-- What is at a place of a list: where one more item came last, and where lists are alike.
use Rattle.std.proofs.Common.{◌≡◌, ℕ, zero, suc, List, [], ◌∷◌, ◌++◌, length, map, refl, sym, ap, ◌∙◌, Option, Some, None, ◌⊎◌, inl, inr}
use Rattle.std.specs.List.{slice_get}
use Rattle.std.specs.Option.{option_map}
use Rattle.std.proofs.lemmas.List.{length-map}
use Rattle.std.proofs.lemmas.Option.{slice_get-map}
use Rattle.walrus_ty.proofs.Basics.{some_inj}

pub place-stays :
    {X : Type 0} (xs ys : List X) (k : ℕ) (x : X) → slice_get xs k ≡ Some x →
    slice_get (xs ++ ys) k ≡ Some x
place-stays [] ys k x h = cc
place-stays (y ∷ xs) ys zero x h = h
place-stays (y ∷ xs) ys (suc k) x h = place-stays xs ys k x h

pub last-place : {X : Type 0} (xs : List X) (x : X) → slice_get (xs ++ x ∷ []) (length xs) ≡ Some x
last-place [] x = refl
last-place (y ∷ xs) x = last-place xs x

pub place-before-or-last :
    {X : Type 0} (xs : List X) (y : X) (k : ℕ) (x : X) → slice_get (xs ++ y ∷ []) k ≡ Some x →
    (slice_get xs k ≡ Some x) ⊎ ((k ≡ length xs) × (y ≡ x))
place-before-or-last [] y zero x h = inr (refl, some_inj h)
place-before-or-last [] y (suc k) x h = cc
place-before-or-last (z ∷ xs) y zero x h = inl h
place-before-or-last (z ∷ xs) y (suc k) x h = elim (place-before-or-last xs y k x h) [
  | inl w ↦ inl w
  | inr w ↦ inr (ap suc w.0, w.1)
]

pub none-is-not-some : {X : Type 0} (o : Option X) (x : X) → o ≡ None → o ≡ Some x → ⊥
none-is-not-some o x p q = cc

-- lists that are the same under f are as long, and the same under f at each place

pub same-length :
    {X Y : Type 0} (f : X → Y) (xs ys : List X) → map f xs ≡ map f ys → length xs ≡ length ys
same-length f xs ys e = sym (length-map xs f) ∙ (ap length e ∙ length-map ys f)

pub same-at-place :
    {X Y : Type 0} (f : X → Y) (xs ys : List X) (k : ℕ) (x y : X) → map f xs ≡ map f ys →
    slice_get xs k ≡ Some x → slice_get ys k ≡ Some y → f x ≡ f y
same-at-place f xs ys k x y e h i =
    some_inj (ap (option_map f) (sym h) ∙ (sym (slice_get-map f xs k)
    ∙ (ap (λ zs. slice_get zs k) e ∙ (slice_get-map f ys k ∙ ap (option_map f) i))))
