-- Lemmas on going over the live slots in order.
use Rattle.std.proofs.Common.{◌≡◌, ℕ, zero, suc, ◌+◌, ◌<◌, List, [], ◌∷◌, refl, sym, ap, subst, ◌∙◌, ◌-◌, arith, Some, None, Option, inl, inr, Bool, true, false}
use Rattle.std.specs.Option.{IsSomeAnd}
use Rattle.std.proofs.lemmas.Bool.{cases_lt}
use Rattle.walrus_arena.specs.Arena.{Slots, get, items_from}

module _ {T : Type 0} where
  -- the first live slot of these, and those behind it
  record IsNext (n : ℕ) (s : Slots T) (id : ℕ) (x : T) (left : List (ℕ × T)) : Type 0 where
    place : ℕ
    at : id ≡ n + place
    value : get s place ≡ Some x
    before : (j : ℕ) → j < place → get s j ≡ None
    rest : Slots T
    same : (j : ℕ) → get s (place + 1 + j) ≡ get rest j
    left_is : left ≡ items_from (id + 1) rest

  head_is : (a b : ℕ × T) (xs ys : List (ℕ × T)) → a ∷ xs ≡ b ∷ ys → a ≡ b
  head_is a b xs ys h = cc

  tail_is : (a b : ℕ × T) (xs ys : List (ℕ × T)) → a ∷ xs ≡ b ∷ ys → xs ≡ ys
  tail_is a b xs ys h = cc

  next_of : (n : ℕ) (s : Slots T) (id : ℕ) (x : T) (left : List (ℕ × T)) → items_from n s ≡ (id, x) ∷ left →
      IsNext n s id x left
  next_of n [] id x left h = let c : ⊥ = cc in absurd c
  next_of n (Some y ∷ s) id x left h =
      let pair : (n, y) ≡ (id, x) = head_is (n, y) (id, x) (items_from (n + 1) s) left h in
      let number : n ≡ id = ap (λ p. p.0) pair in
      let item : y ≡ x = ap (λ p. p.1) pair in
      record {
        place = 0;
        at = omega (arith, number);
        value = ap (λ (z : T). Some z) item;
        before = λ j low. absurd (omega (arith, low));
        rest = s;
        same = λ j. (let e : 0 + 1 + j ≡ suc j = omega arith in ap (get (Some y ∷ s)) e);
        left_is = sym (tail_is (n, y) (id, x) (items_from (n + 1) s) left h)
            ∙ ap (λ (m : ℕ). items_from (m + 1) s) number;
      }
  next_of n (None ∷ s) id x left h =
      let r : IsNext (n + 1) s id x left = next_of (n + 1) s id x left h in
      record {
        place = suc r.place;
        at = omega (arith, r.at);
        value = r.value;
        before = λ j low. by_place s r.place r.before j low;
        rest = r.rest;
        same = λ j. (let e : suc r.place + 1 + j ≡ suc (r.place + 1 + j) = omega arith in
            ap (get (None ∷ s)) e ∙ r.same j);
        left_is = r.left_is;
      }
    where
      by_place : (s : Slots T) (place : ℕ) → ((j : ℕ) → j < place → get s j ≡ None) → (j : ℕ) →
          j < suc place → get (None ∷ s) j ≡ None
      by_place s place before zero low = refl
      by_place s place before (suc j) low = before j (omega (arith, low))

  all_dead : (n : ℕ) (s : Slots T) → items_from n s ≡ [] → (j : ℕ) → get s j ≡ None
  all_dead n [] h j = refl
  all_dead n (Some y ∷ s) h j = let c : ⊥ = cc in absurd c
  all_dead n (None ∷ s) h zero = refl
  all_dead n (None ∷ s) h (suc j) = all_dead (n + 1) s h j

  none_holds : (P : T → Type 0) (o : Option T) → o ≡ None → IsSomeAnd o P → ⊥
  none_holds P None e h = h
  none_holds P (Some x) e h = let c : ⊥ = cc in absurd c

  some_holds : (P : T → Type 0) (o : Option T) (x : T) → o ≡ Some x → IsSomeAnd o P → P x
  some_holds P o x e h = subst (λ (q : Option T). IsSomeAnd q P) e h

  -- these items are left, and P holds of none of the slots before them
  pub record HasPassed (P : T → Type 0) (slots : Slots T) (left : List (ℕ × T)) : Type 0 where
    pub first : ℕ
    pub rest : Slots T
    pub same : (j : ℕ) → get slots (first + j) ≡ get rest j
    pub left_is : left ≡ items_from first rest
    pub none : (j : ℕ) → j < first → IsSomeAnd (get slots j) P → ⊥

  -- the next item, whose slot is the first of those that are left
  pub record IsReached (P : T → Type 0) (slots : Slots T) (id : ℕ) (x : T)
      (left : List (ℕ × T)) : Type 0 where
    pub value : get slots id ≡ Some x
    pub none : (j : ℕ) → j < id → IsSomeAnd (get slots j) P → ⊥
    pub pass : (P x → ⊥) → HasPassed P slots left

  pub reached : (P : T → Type 0) (slots : Slots T) (all : List (ℕ × T)) (id : ℕ) (x : T) (left : List (ℕ × T))
      → HasPassed P slots all → all ≡ (id, x) ∷ left → IsReached P slots id x left
  reached P slots all id x left passed split =
      let next : IsNext passed.first passed.rest id x left =
      next_of passed.first passed.rest id x left (sym passed.left_is ∙ split) in
      let shown : get slots id ≡ Some x = ap (get slots) next.at ∙ passed.same next.place ∙ next.value in
      let before : (j : ℕ) → j < id → IsSomeAnd (get slots j) P → ⊥ = λ j low.
      elim (cases_lt j passed.first) [
        | inl w ↦ passed.none j w
        | inr w ↦ (let e : passed.first + (j - passed.first) ≡ j = omega (arith, w) in
            none_holds P (get slots j) (ap (get slots) (sym e) ∙ passed.same (j - passed.first)
            ∙ next.before (j - passed.first) (omega (arith, low, w, next.at))))
      ] in
      record {
        value = shown;
        none = before;
        pass = λ fails. record {
          first = id + 1;
          rest = next.rest;
          same = λ j. (let e : id + 1 + j ≡ passed.first + (next.place + 1 + j) = omega (arith, next.at) in
              ap (get slots) e ∙ passed.same (next.place + 1 + j) ∙ next.same j);
          left_is = next.left_is;
          none = λ j low. elim (cases_lt j id) [
            | inl w ↦ before j w
            | inr w ↦ (let e : j ≡ id = omega (arith, low, w) in λ h.
                fails (some_holds P (get slots j) x (ap (get slots) e ∙ shown) h))
          ];
        };
      }

  pub passed_all : (P : T → Type 0) (slots : Slots T) → HasPassed P slots [] → (id : ℕ) →
      IsSomeAnd (get slots id) P → ⊥
  passed_all P slots passed id = elim (cases_lt id passed.first) [
    | inl w ↦ passed.none id w
    | inr w ↦ (let e : passed.first + (id - passed.first) ≡ id = omega (arith, w) in
        none_holds P (get slots id) (ap (get slots) (sym e) ∙ passed.same (id - passed.first)
        ∙ all_dead passed.first passed.rest (sym passed.left_is) (id - passed.first)))
  ]

  pub some_is : (P : T → Type 0) (o : Option T) (x : T) → o ≡ Some x → P x → IsSomeAnd o P
  some_is P o x e h = subst (λ (q : Option T). IsSomeAnd q P) (sym e) h

pub not_both : (b : Bool) → b ≡ true → b ≡ false → ⊥
not_both b h k = cc
