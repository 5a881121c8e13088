-- Whether a list of names has an id.
use Rattle.std.proofs.Common.{◌≡◌, List, ◌∷◌, ◌++◌, Bool, true, false, ◌||◌, ap, ◌∙◌}
use Rattle.std.specs.List.{list_any, flat_map}
use Rattle.std.proofs.lemmas.List.Folds.{list_any-append}

pub any_left :
    {A : Type 0} (test : A → Bool) (xs ys : List A) → list_any test xs ≡ true →
    list_any test (xs ++ ys) ≡ true
any_left test xs ys h = list_any-append test xs ys ∙ ap (λ b. b || list_any test ys) h

pub any_right :
    {A : Type 0} (test : A → Bool) (xs ys : List A) → list_any test xs ≡ false →
    list_any test (xs ++ ys) ≡ list_any test ys
any_right test xs ys h = list_any-append test xs ys ∙ ap (λ b. b || list_any test ys) h

pub any_here :
    {A B : Type 0} (test : B → Bool) (f : A → List B) (rest left : List A) (x : A) →
    rest ≡ x ∷ left → list_any test (f x) ≡ true → list_any test (flat_map f rest) ≡ true
any_here test f rest left x e h = ap (λ xs. list_any test (flat_map f xs)) e
    ∙ any_left test (f x) (flat_map f left) h

pub any_later :
    {A B : Type 0} (test : B → Bool) (f : A → List B) (rest left : List A) (x : A) →
    rest ≡ x ∷ left → list_any test (f x) ≡ false →
    list_any test (flat_map f rest) ≡ list_any test (flat_map f left)
any_later test f rest left x e h = ap (λ xs. list_any test (flat_map f xs)) e
    ∙ any_right test (f x) (flat_map f left) h
