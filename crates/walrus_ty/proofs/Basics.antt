-- Small lemmas that many proofs need.
use Rattle.std.proofs.Common.{◌≡◌, ℕ, zero, suc, ◌+◌, ◌-◌, ◌≤◌, List, [], ◌∷◌, ◌++◌, ◌∙◌, length, Bool, true, false, ◌&&◌, not, refl, ap, arith, Some, ◌⊎◌, inl, inr}
use Rattle.std.specs.declared.cmp.Ordering.{Ordering, TheVariants.Less, TheVariants.Equal}
use Rattle.std.specs.{Ordering.nat_cmp, Ordering.ordering_then, List.slice_get, List.range_with_len}
use Rattle.std.proofs.lemmas.Bool.Decides.{nat_tests}

pub some_inj : {A : Type 0} {x y : A} → Some x ≡ Some y → x ≡ y
some_inj h = cc

-- both parts of a test of two

pub and_left : (p q : Bool) → (p && q) ≡ true → p ≡ true
and_left true q h = refl
and_left false q h = cc

pub and_right : (p q : Bool) → (p && q) ≡ true → q ≡ true
and_right true q h = h
and_right false q h = cc

pub false_from_not : (b : Bool) → not b ≡ true → b ≡ false
false_from_not true h = cc
false_from_not false h = refl

-- numbers

pub nat_same : (a : ℕ) → nat_cmp a a ≡ Equal
nat_same a = grind (arith, nat_tests)

pub then_less : (o p : Ordering) → o ≡ Less → ordering_then o p ≡ Less
then_less o p h = ap (λ q. ordering_then q p) h

pub add_rest : (a b : ℕ) → a ≤ b → a + (b - a) ≡ b
add_rest a b h = omega arith

-- what stands in a list of two parts

pub slice_get-left :
    (xs ys : List ℕ) (k x : ℕ) → slice_get xs k ≡ Some x → slice_get (xs ++ ys) k ≡ Some x
slice_get-left [] ys k x h = cc
slice_get-left (y ∷ xs) ys zero x h = h
slice_get-left (y ∷ xs) ys (suc k) x h = slice_get-left xs ys k x h

pub slice_get-right :
    (xs ys : List ℕ) (j x : ℕ) → slice_get ys j ≡ Some x →
    slice_get (xs ++ ys) (length xs + j) ≡ Some x
slice_get-right [] ys j x h = let place : 0 + j ≡ j = omega arith in ap (slice_get ys) place ∙ h
slice_get-right (y ∷ xs) ys j x h = let place : suc (length xs) + j ≡ suc (length xs + j) = omega arith in
    ap (slice_get (y ∷ xs ++ ys)) place ∙ slice_get-right xs ys j x h

pub slice_get-parts :
    (xs ys : List ℕ) (k x : ℕ) → slice_get (xs ++ ys) k ≡ Some x →
    (slice_get xs k ≡ Some x) ⊎ ((j : ℕ) × (k ≡ length xs + j) × (slice_get ys j ≡ Some x))
slice_get-parts [] ys k x h = inr (k, omega arith, h)
slice_get-parts (y ∷ xs) ys zero x h = inl h
slice_get-parts (y ∷ xs) ys (suc k) x h = elim (slice_get-parts xs ys k x h) [
  | inl w ↦ inl w
  | inr w ↦
      inr (w.0, omega (arith, w.1), w.2)
]

-- one more number at the end of a range
pub range_push : (a n k : ℕ) → k ≡ a + n → range_with_len a n ++ k ∷ [] ≡ range_with_len a (n + 1)
range_push a zero k e = let h : k ≡ a = omega arith in ap (λ (i : ℕ). i ∷ []) h
range_push a (suc n) k e =
    let more : suc (n + 1) ≡ suc n + 1 = omega arith in
    ap (λ (xs : List ℕ). a ∷ xs) (range_push (a + 1) n k (omega arith)) ∙ ap (range_with_len a) more
