-- What a stack holds once the children of instructions were pushed.
use Rattle.std.proofs.lemmas.List.{reverse-append, reverse-reverse, take-append-drop}
use Rattle.std.proofs.lemmas.Grind.{flat_map-append}
use Rattle.std.proofs.Common.{◌≡◌, ℕ, suc, ◌<◌, List, [], ◌∷◌, ◌++◌, length, take, drop, get_or, drop-cons, map, reverse, refl, sym, ap, ◌∙◌, subst, append_assoc, flat_map, Result, Ok, Err, OnErr}
use Rattle.walrus_nesting.specs.Pushing.{Pushes, PushesBehind}
use Rattle.walrus_nesting.specs.declared.nesting.search.Work.{Work}
use Rattle.walrus_nesting.specs.declared.nesting.search.Work.TheVariants.{Enter}

module _ {X T : Type 0} (gives : X → T → Type 0) where
  pub pushes_append : (xs ys : List X) (old between new : List T) →
      Pushes gives ys old between → Pushes gives xs between new → Pushes gives (xs ++ ys) old new
  pushes_append [] ys old between new h k = subst (λ (l : List T). Pushes gives ys old l) (sym k) h
  pushes_append (x ∷ xs) ys old between new h k =
      (k.0, k.1, pushes_append xs ys old between k.0 h k.2, k.3, k.4)

  -- the items of the place before
  pub pushes_more : {C : Type 0} (f : C → List X) (cs : List C) (c : C) (i j : ℕ) (old between new : List T) →
      j ≡ suc i → i < length cs → c ≡ get_or cs i c → Pushes gives (flat_map f (drop j cs)) old between →
      Pushes gives (f c) between new → Pushes gives (flat_map f (drop i cs)) old new
  pushes_more f cs c i j old between new next lt e h k =
      let F : List X → Type 0 = λ l. Pushes gives l old new in
      let G : ℕ → Type 0 = λ n. Pushes gives (flat_map f (drop n cs)) old between in
      subst F (ap (flat_map f) (ap (λ z. z ∷ drop (suc i) cs) e ∙ sym (drop-cons cs i c lt)))
      (pushes_append (f c) (flat_map f (drop (suc i) cs)) old between new (subst G next h) k)

  -- the push for the first was refused
  pub behind_first : (x : X) (xs : List X) (old new : List T) → Pushes gives xs old new →
      PushesBehind gives (x ∷ xs) old new
  behind_first x xs old new h = record { before = []; refused = x; behind = xs; list_is = refl; pushed = h }

  -- or that for another
  pub behind_later : (xs ys : List X) (old new : List T) → PushesBehind gives ys old new →
      PushesBehind gives (xs ++ ys) old new
  behind_later xs ys old new h = record {
    before = xs ++ h.before;
    refused = h.refused;
    behind = h.behind;
    list_is =
        ap (λ l. xs ++ l) h.list_is ∙ sym (append_assoc xs h.before (h.refused ∷ h.behind));
    pushed = h.pushed;
  }

  pub behind_append : (xs ys : List X) (old between new : List T) →
      Pushes gives ys old between → PushesBehind gives xs between new → PushesBehind gives (xs ++ ys) old new
  behind_append xs ys old between new h k = record {
    before = k.before;
    refused = k.refused;
    behind = k.behind ++ ys;
    list_is = ap (λ l. l ++ ys) k.list_is ∙ append_assoc k.before (k.refused ∷ k.behind) ys;
    pushed = pushes_append k.behind ys old between new h k.pushed;
  }

  -- a call that pushes for both lists is refused at the second one
  pub refused_later : {A E : Type 0} (r : Result A E) (xs ys all : List X) (old new : List T) →
      all ≡ xs ++ ys → PushesBehind gives ys old new → OnErr r (PushesBehind gives all old new)
  refused_later (Ok a) xs ys all old new e h = tt
  refused_later (Err a) xs ys all old new e h =
      subst (λ l. PushesBehind gives l old new) (sym e) (behind_later xs ys old new h)

  -- or at the first one, once it has pushed for the second
  pub refused_sooner : {A E : Type 0} (r : Result A E) (xs ys all : List X) (old between new : List T) →
      all ≡ xs ++ ys → Pushes gives ys old between → OnErr r (PushesBehind gives xs between new) →
      OnErr r (PushesBehind gives all old new)
  refused_sooner (Ok a) xs ys all old between new e h k = tt
  refused_sooner (Err a) xs ys all old between new e h k =
      subst (λ l. PushesBehind gives l old new) (sym e) (behind_append xs ys old between new h k)

  -- a call that pushes for one place after the other, from the last on, is refused at this one
  pub refused_at : {A E C : Type 0} (r : Result A E) (f : C → List X) (cs : List C) (c : C) (i j : ℕ)
      (old between new : List T) → j ≡ suc i → i < length cs → c ≡ get_or cs i c →
      Pushes gives (flat_map f (drop j cs)) old between → PushesBehind gives (f c) between new →
      OnErr r (PushesBehind gives (flat_map f cs) old new)
  refused_at r f cs c i j old between new next lt e h k =
      let rest = drop (suc i) cs in
      refused_later r (flat_map f (take i cs)) (f c ++ flat_map f rest) (flat_map f cs) old new
      (ap (flat_map f) (sym (take-append-drop i cs)
      ∙ ap (λ l. take i cs ++ l) (drop-cons cs i c lt ∙ ap (λ z. z ∷ rest) (sym e)))
      ∙ flat_map-append f (take i cs) (c ∷ rest))
      (behind_append (f c) (flat_map f rest) old between new
      (subst (λ n. Pushes gives (flat_map f (drop n cs)) old between) next h) k)

  -- where an item gives one thing alone
  pub pushed_reversed : (g : X → T) → ((x : X) (t : T) → gives x t → t ≡ g x) →
      (xs : List X) (old new : List T) → Pushes gives xs old new → reverse new ≡ map g xs ++ reverse old
  pushed_reversed g e [] old new h = ap reverse h
  pushed_reversed g e (x ∷ xs) old new h =
      ap reverse h.4 ∙ reverse-append h.0 (h.1 ∷ []) ∙ ap (λ t. t ∷ reverse h.0) (e x h.1 h.3)
      ∙ ap (λ l. g x ∷ l) (pushed_reversed g e xs old h.0 h.2)

  pub pushed_behind : (g : X → T) → ((x : X) (t : T) → gives x t → t ≡ g x) →
      (xs : List X) (old new : List T) → Pushes gives xs old new → new ≡ old ++ reverse (map g xs)
  pushed_behind g e xs old new h =
      sym (reverse-reverse new) ∙ ap reverse (pushed_reversed g e xs old new h)
      ∙ reverse-append (map g xs) (reverse old) ∙ ap (λ l. l ++ reverse (map g xs)) (reverse-reverse old)

-- the work of the nesting check
pub pushed_work : (xs : List ℕ) (old new : List Work) →
    Pushes (λ id w. w ≡ Enter id) xs old new → reverse new ≡ map Enter xs ++ reverse old
pushed_work xs old new h = pushed_reversed (λ id w. w ≡ Enter id) Enter (λ x t k. k) xs old new h

same_items : (xs : List ℕ) → map (λ x. x) xs ≡ xs
same_items [] = refl
same_items (x ∷ xs) = ap (λ l. x ∷ l) (same_items xs)

-- a stack of ids
pub pushed_ids : (xs old new : List ℕ) → Pushes (λ x y. y ≡ x) xs old new → reverse new ≡ xs ++ reverse old
pushed_ids xs old new h =
    pushed_reversed (λ x y. y ≡ x) (λ x. x) (λ x t k. k) xs old new h
    ∙ ap (λ l. l ++ reverse old) (same_items xs)
