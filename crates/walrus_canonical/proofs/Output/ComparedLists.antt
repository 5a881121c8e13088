-- Comparing lists item by item.
use Rattle.std.proofs.Common.{◌≡◌, ℕ, zero, suc, List, [], ◌∷◌, length, map, drop, refl, ap, sym, ◌∙◌, arith}
use Rattle.std.specs.Prelude.{min}
use Rattle.std.specs.declared.cmp.Ordering.{Ordering}
use Rattle.std.specs.declared.cmp.Ordering.TheVariants.{Less, Greater}
use Rattle.std.specs.Ordering.{nat_cmp, ordering_then}
use Rattle.std.specs.Cmp.Lexicographic.{slice_cmp}
use Rattle.std.proofs.lemmas.Bool.Decides.{nat_tests}
use Rattle.std.proofs.lemmas.List.{length-map}
use Rattle.walrus_ty.specs.declared.records.EntryAt.{EntryAt}
use Rattle.walrus_ty.specs.Definition.{definition_cmp, rename}
use Rattle.walrus_ty.specs.Records.{entry_definition}
use Rattle.walrus_canonical.specs.Steps.Shown.{definitions_cmp, own_base, shown, shown_definitions, shown_entry_cmp}

-- the lists with each item replaced are compared as the items are
pub cmp_of_maps :
    {A B C D : Type 0} (R : C → D → Ordering) (f : A → C) (g : B → D) (xs : List A) (ys : List B) →
    slice_cmp R (map f xs) (map g ys) ≡ slice_cmp (λ x y. R (f x) (g y)) xs ys
cmp_of_maps R f g [] [] = refl
cmp_of_maps R f g [] (y ∷ ys) = refl
cmp_of_maps R f g (x ∷ xs) [] = refl
cmp_of_maps R f g (x ∷ xs) (y ∷ ys) =
    ap (ordering_then (R (f x) (g y))) (cmp_of_maps R f g xs ys)

less_than_more : (n : ℕ) → nat_cmp 0 (suc n) ≡ Less
less_than_more n = grind (arith, nat_tests)

more_than_none : (n : ℕ) → nat_cmp (suc n) 0 ≡ Greater
more_than_none n = grind (arith, nat_tests)

both_less : (m n : ℕ) → nat_cmp (suc m) (suc n) ≡ nat_cmp m n
both_less m n = grind (arith, nat_tests)

-- where one of the lists ends, their lengths decide
pub ended :
    {A B : Type 0} (R : A → B → Ordering) (xs : List A) (ys : List B) (i : ℕ) (o : Ordering) →
    i ≡ min (length xs) (length ys) → o ≡ nat_cmp (length xs) (length ys) →
    o ≡ slice_cmp R (drop i xs) (drop i ys)
ended R [] [] zero o m h = h
ended R [] [] (suc i) o m h = absurd (omega (arith, m))
ended R [] (y ∷ ys) zero o m h = h ∙ less_than_more (length ys)
ended R [] (y ∷ ys) (suc i) o m h = absurd (omega (arith, m))
ended R (x ∷ xs) [] zero o m h = h ∙ more_than_none (length xs)
ended R (x ∷ xs) [] (suc i) o m h = absurd (omega (arith, m))
ended R (x ∷ xs) (y ∷ ys) zero o m h = absurd (omega (arith, m))
ended R (x ∷ xs) (y ∷ ys) (suc i) o m h =
    ended R xs ys i o (omega (arith, m)) (h ∙ both_less (length xs) (length ys))

-- of two groups
pub cmp_of_groups :
    (ds es : List EntryAt) (m n : ℕ) → m ≡ own_base (length ds) → n ≡ own_base (length es) →
    slice_cmp (shown_entry_cmp m n) ds es ≡
    definitions_cmp (shown_definitions (map entry_definition ds))
    (shown_definitions (map entry_definition es))
cmp_of_groups ds es m n p q =
    sym (cmp_of_maps definition_cmp (rename (shown m)) (rename (shown n)) (map entry_definition ds)
    (map entry_definition es)
    ∙ cmp_of_maps (λ d e. definition_cmp (rename (shown m) d) (rename (shown n) e)) entry_definition
    entry_definition ds es)
    ∙ (ap (λ b. definitions_cmp (map (rename (shown b)) (map entry_definition ds))
    (map (rename (shown n)) (map entry_definition es))) (p ∙ ap own_base
    (sym (length-map ds entry_definition)))
    ∙ ap (λ b. definitions_cmp (shown_definitions (map entry_definition ds))
    (map (rename (shown b)) (map entry_definition es))) (q ∙ ap own_base
    (sym (length-map es entry_definition))))
