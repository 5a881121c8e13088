-- Lists whose items are members, and the children of a sequence in either order.
use Rattle.std.proofs.lemmas.List.{reverse-append}
use Rattle.std.proofs.Common.{◌≡◌, ℕ, zero, suc, ◌<◌, ◌⊎◌, inl, inr, List, [], ◌∷◌, ◌++◌, Contains, length, slice_index_or, reverse, refl, sym, subst, arith}
use Rattle.std.specs.List.{AllByRecursion, flat_map}
use Rattle.ir_instr.specs.declared.instr.Instr.{Instr}
use Rattle.walrus_functions.specs.Body.{Body, sequence}
use Rattle.walrus_functions.specs.Nesting.{children, IsChild}
use Rattle.walrus_traversals_mut.specs.Walks.{last_first_of}

-- as `Contains`, by recursion
abbrev pub Member : {A : Type 0} → A → List A → Type 0
Member a [] = ⊥
Member a (x ∷ xs) = (a ≡ x) ⊎ Member a xs

pub contains_member : {A : Type 0} (a : A) (xs : List A) → Member a xs → Contains xs a
contains_member a [] h = absurd h
contains_member a (x ∷ xs) h = elim h [
  | inl e ↦ (zero, omega arith, sym e)
  | inr m ↦ (let k = contains_member a xs m in let lt = k.1 in (suc k.0, omega arith, k.2))
]

pub member_at : {A : Type 0} (a : A) (xs : List A) (k : ℕ) →
    k < length xs → slice_index_or xs k a ≡ a → Member a xs
member_at a [] k lt e = absurd (omega arith)
member_at a (x ∷ xs) zero lt e = inl (sym e)
member_at a (x ∷ xs) (suc k) lt e = inr (member_at a xs k (omega arith) e)

pub all_members : {A : Type 0} (P : A → Type 0) (xs : List A) →
    ((x : A) → Member x xs → P x) → AllByRecursion P xs
all_members P [] h = tt
all_members P (x ∷ xs) h = (h x (inl refl), all_members P xs (λ y m. h y (inr m)))

pub all_append : {X : Type 0} (P : X → Type 0) (xs ys : List X) →
    AllByRecursion P xs → AllByRecursion P ys → AllByRecursion P (xs ++ ys)
all_append P [] ys h k = k
all_append P (x ∷ xs) ys h k = (h.0, all_append P xs ys h.1 k)

pub all_weaker : {X : Type 0} (P Q : X → Type 0) (xs : List X) →
    ((x : X) → P x → Q x) → AllByRecursion P xs → AllByRecursion Q xs
all_weaker P Q [] f h = tt
all_weaker P Q (x ∷ xs) f h = (f x h.0, all_weaker P Q xs f h.1)

pub member_parts : {A : Type 0} (a : A) (xs ys : List A) → Member a (xs ++ ys) → Member a xs ⊎ Member a ys
member_parts a [] ys h = inr h
member_parts a (x ∷ xs) ys h = elim h [
  | inl e ↦ inl (inl e)
  | inr m ↦ elim (member_parts a xs ys m) [ inl k ↦ inl (inr k) | inr k ↦ inr k ]
]

pub member_left : {A : Type 0} (a : A) (xs ys : List A) → Member a xs → Member a (xs ++ ys)
member_left a [] ys h = absurd h
member_left a (x ∷ xs) ys h = elim h [ inl e ↦ inl e | inr m ↦ inr (member_left a xs ys m) ]

pub member_right : {A : Type 0} (a : A) (xs ys : List A) → Member a ys → Member a (xs ++ ys)
member_right a [] ys h = h
member_right a (x ∷ xs) ys h = inr (member_right a xs ys h)

member_front : {A : Type 0} (a : A) (xs : List A) (x : A) → Member a (xs ++ x ∷ []) → Member a (x ∷ xs)
member_front a xs x h = elim (member_parts a xs (x ∷ []) h) [
  | inl m ↦ inr m
  | inr m ↦
      elim m [ inl e ↦ inl e | inr n ↦ absurd n ]
]

member_reverse : {A : Type 0} (a : A) (xs : List A) → Member a (reverse xs) → Member a xs
member_reverse a [] h = h
member_reverse {A} a (x ∷ xs) h =
    elim (member_front a (reverse xs) x (subst (λ (l : List A). Member a l) (reverse-append (x ∷ []) xs) h)) [
      | inl e ↦ inl e
      | inr m ↦ inr (member_reverse a xs m)
    ]

member_reversed : {A : Type 0} (a : A) (xs : List A) → Member a xs → Member a (reverse xs)
member_reversed a [] h = h
member_reversed {A} a (x ∷ xs) h =
    subst (λ (l : List A). Member a l) (sym (reverse-append (x ∷ []) xs)) (elim h [
      | inl e ↦ member_right a (reverse xs) (x ∷ []) (inl e)
      | inr m ↦ member_left a (reverse xs) (x ∷ []) (member_reversed a xs m)
    ])

member_flat : {X A : Type 0} (f : X → List A) (a : A) (xs : List X) →
    Member a (flat_map f xs) → (x : X) × Member x xs × Member a (f x)
member_flat f a [] h = absurd h
member_flat f a (x ∷ xs) h = elim (member_parts a (f x) (flat_map f xs) h) [
  | inl m ↦ (x, inl refl, m)
  | inr m ↦ (let k = member_flat f a xs m in (k.0, inr k.1, k.2))
]

flat_member : {X A : Type 0} (f : X → List A) (a : A) (xs : List X) (x : X) →
    Member x xs → Member a (f x) → Member a (flat_map f xs)
flat_member f a [] x h k = absurd h
flat_member {X} f a (y ∷ ys) x h k = elim h [
  | inl e ↦ member_left a (f y) (flat_map f ys) (subst (λ (z : X). Member a (f z)) e k)
  | inr m ↦ member_right a (f y) (flat_map f ys) (flat_member f a ys x m k)
]

-- what a walk enters is a child
pub child_from_last_first : (body : Body) (q c : ℕ) → Member c (last_first_of body q) → IsChild body q c
child_from_last_first body q c m =
    let f : Instr × ℕ → List ℕ = λ x. children x.0 in
    let k = member_flat f c (reverse (sequence body q).instrs) m in
    contains_member c (flat_map f (sequence body q).instrs)
    (flat_member f c (sequence body q).instrs k.0 (member_reverse k.0 (sequence body q).instrs k.1) k.2)

-- a child is entered
pub last_first_from_child : (body : Body) (q c : ℕ) → IsChild body q c → Member c (last_first_of body q)
last_first_from_child body q c h =
    let f : Instr × ℕ → List ℕ = λ x. children x.0 in
    let is = (sequence body q).instrs in
    let k = member_flat f c is (member_at c (flat_map f is) h.0 h.1 h.2) in
    flat_member f c (reverse is) k.0 (member_reversed k.0 is k.1) k.2
