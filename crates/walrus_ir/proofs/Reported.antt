-- What calls of hooks in turn report.
use Rattle.std.proofs.Common.{◌≡◌, List, [], ◌∷◌, ◌++◌, refl, ap, ◌∙◌, append-nil, flat_map}
use Rattle.walrus_ir.specs.Calls.{Calls, leaves, call, and_then, each, reported, unchanged, at}

-- what calls in turn report
pub reported_then : {A B : Type 0} (t : Calls A) (k : A → Calls B) →
    reported (and_then t k) ≡ reported t ++ reported (k (unchanged t))
reported_then (leaves x) k = refl
reported_then (call hook given rest) k = ap (λ l. at hook given ∷ l) (reported_then (rest given) k)

pub reported_each : {A : Type 0} (f : A → Calls A) (xs : List A) →
    reported (each f xs) ≡ flat_map (λ x. reported (f x)) xs
reported_each f [] = refl
reported_each f (x ∷ xs) =
    reported_then (f x) (λ y. and_then (each f xs) (λ ys. leaves (y ∷ ys)))
    ∙ ap (λ l. reported (f x) ++ l) (reported_then (each f xs) (λ ys. leaves (unchanged (f x) ∷ ys))
    ∙ append-nil (reported (each f xs)) ∙ reported_each f xs)

-- what stands at last makes no difference
pub reported_put : {A B : Type 0} (t : Calls A) (put : A → B) →
    reported (and_then t (λ x. leaves (put x))) ≡ reported t
reported_put (leaves x) put = refl
reported_put (call hook given rest) put = ap (λ l. at hook given ∷ l) (reported_put (rest given) put)
