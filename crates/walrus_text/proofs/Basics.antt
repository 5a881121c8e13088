-- Small steps on options, results and lists, each used by several proofs.
use Rattle.std.proofs.Common.{◌≡◌, List, [], ◌∷◌, ◌++◌, length, Option, None, Some, Result, Ok, Err, refl, arith}
use Rattle.std.specs.Prelude.{IfOk, IfErr, IfSome, IfNone, MatchOption}
use Rattle.std.specs.List.{flat_map, AllByRecursion}

pub if_ok :
    {X E : Type 0} (r : Result X E) (P Q : X → Type 0) → ((x : X) → P x → Q x) → IfOk r P → IfOk r Q
if_ok (Ok x) P Q f h = f x h
if_ok (Err e) P Q f h = tt

pub if_err :
    {X E : Type 0} (r : Result X E) (P Q : E → Type 0) → ((e : E) → P e → Q e) → IfErr r P →
    IfErr r Q
if_err (Ok x) P Q f h = tt
if_err (Err e) P Q f h = f e h

pub no_items : {X : Type 0} (xs : List X) → length xs ≡ 0 → xs ≡ []
no_items [] e = refl
no_items (x ∷ xs) e = absurd (omega (arith, e))

pub if_none : {X : Type 0} (o : Option X) (P : Type 0) → P → IfNone o P
if_none None P h = h
if_none (Some x) P h = tt

pub some_from_match :
    {X : Type 0} (r : Option X) (A : Type 0) (B : X → Type 0) → MatchOption r A B → IfSome r B
some_from_match None A B h = tt
some_from_match (Some x) A B h = h

pub none_from_match :
    {X : Type 0} (r : Option X) (A : Type 0) (B : X → Type 0) → MatchOption r A B → IfNone r A
none_from_match None A B h = h
none_from_match (Some x) A B h = tt

pub all_left :
    {X : Type 0} (P : X → Type 0) (xs ys : List X) → AllByRecursion P (xs ++ ys) →
    AllByRecursion P xs
all_left P [] ys h = tt
all_left P (x ∷ xs) ys h = (h.0, all_left P xs ys h.1)

pub all_right :
    {X : Type 0} (P : X → Type 0) (xs ys : List X) → AllByRecursion P (xs ++ ys) →
    AllByRecursion P ys
all_right P [] ys h = h
all_right P (x ∷ xs) ys h = all_right P xs ys h.1

pub all_both :
    {X : Type 0} (P : X → Type 0) (xs ys : List X) → AllByRecursion P xs → AllByRecursion P ys →
    AllByRecursion P (xs ++ ys)
all_both P [] ys h k = k
all_both P (x ∷ xs) ys h k = (h.0, all_both P xs ys h.1 k)

-- what f makes of one more
pub all_more :
    {X Y : Type 0} (P : Y → Type 0) (f : X → List Y) (xs : List X) (x : X) →
    AllByRecursion P (flat_map f xs) → AllByRecursion P (f x) →
    AllByRecursion P (flat_map f (xs ++ x ∷ []))
all_more P f [] x h k = all_both P (f x) [] k tt
all_more P f (y ∷ ys) x h k = all_both P (f y) (flat_map f (ys ++ x ∷ []))
    (all_left P (f y) (flat_map f ys) h) (all_more P f ys x (all_right P (f y) (flat_map f ys) h) k)

-- each x has what all that f makes of xs has
pub all_each :
    {X Y : Type 0} (P : Y → Type 0) (f : X → List Y) (xs : List X) →
    AllByRecursion P (flat_map f xs) → AllByRecursion (λ x. AllByRecursion P (f x)) xs
all_each P f [] h = tt
all_each P f (x ∷ xs) h = (
  all_left P (f x) (flat_map f xs) h,
  all_each P f xs (all_right P (f x) (flat_map f xs) h),
)
