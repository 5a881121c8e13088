-- Tests of all names of a type, part by part.
use Rattle.std.proofs.Common.{◌≡◌, ◌&&◌, List, [], ◌∷◌, ◌++◌, Bool, refl, ap, ◌∙◌}
use Rattle.std.specs.List.{list_all, flat_map}
use Rattle.std.proofs.lemmas.List.Folds.{list_all-append}

pub list_all_both :
    {X : Type 0} (p : X → Bool) (xs ys : List X) →
    list_all p (xs ++ ys) ≡ (list_all p xs && list_all p ys)
list_all_both p xs ys = list_all-append p xs ys

pub list_all_flat_map :
    {X Y : Type 0} (p : Y → Bool) (f : X → List Y) (xs : List X) →
    list_all p (flat_map f xs) ≡ list_all (λ x. list_all p (f x)) xs
list_all_flat_map p f [] = refl
list_all_flat_map p f (x ∷ xs) = list_all-append p (f x) (flat_map f xs)
    ∙ ap (λ b. list_all p (f x) && b) (list_all_flat_map p f xs)
