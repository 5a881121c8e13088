-- Stacks, seen with the last pushed first.
use Rattle.std.proofs.lemmas.List.{take_more_set, reverse-append}
use Rattle.std.proofs.Math.Seq.{take-length}
use Rattle.std.proofs.Math.ListN.{set}
use Rattle.std.proofs.Common.{◌+◌, ◌<◌, length, take, append_assoc, arith, reverse, ◌∙◌, ◌≡◌, ℕ, List, [], ◌∷◌, ◌++◌, refl, sym, ap, flat_map}

module _ {X A : Type 0} (f : X → List A) where
  -- an item is replaced, and what the new one gives is pushed
  pub pushed_set : (xs : List X) (y : X) (i : ℕ) (a b base : List A) → i < length xs →
      a ≡ flat_map f (reverse (take i xs)) ++ base → b ≡ f y ++ a →
      b ≡ flat_map f (reverse (take (i + 1) (set xs i y))) ++ base
  pushed_set xs y i a b base lt h k =
      let t : take (i + 1) (set xs i y) ≡ take i xs ++ y ∷ [] = take_more_set xs i y lt in
      let r : reverse (take (i + 1) (set xs i y)) ≡ y ∷ reverse (take i xs) = ap reverse t
      ∙ reverse-append (take i xs) (y ∷ []) in
      k ∙ ap (λ l. f y ++ l) h ∙ sym (append_assoc (f y) (flat_map f (reverse (take i xs))) base)
      ∙ ap (λ l. flat_map f l ++ base) (sym r)

  -- all items were pushed
  pub pushed_all : (xs : List X) (i : ℕ) (a base : List A) → i ≡ length xs →
      a ≡ flat_map f (reverse (take i xs)) ++ base → a ≡ flat_map f (reverse xs) ++ base
  pushed_all xs i a base e h = h ∙ ap (λ l. flat_map f (reverse l) ++ base) (ap (λ n. take n xs) e
      ∙ take-length xs)

pub popped : {A : Type 0} (xs ys : List A) (x : A) → xs ≡ ys ++ x ∷ [] → reverse xs ≡ x ∷ reverse ys
popped xs ys x e = ap reverse e ∙ reverse-append ys (x ∷ [])

pub none_left : {A : Type 0} (xs : List A) → length xs ≡ 0 → reverse xs ≡ []
none_left [] h = refl
none_left (x ∷ xs) h = absurd (omega arith)
