-- lemmas on folds over some first events
use Rattle.std.proofs.Common.{◌≡◌, ℕ, zero, suc, ◌+◌, ◌<◌, List, [], ◌∷◌, ◌++◌, length, take, drop, get_or, refl, sym, ap, ◌∙◌, subst, append_assoc, take_all, le_refl}
use Rattle.std.specs.List.{flat_map, FoldsTo}
use Rattle.std.proofs.lemmas.List.{take_more, flat_map_more}
use Rattle.walrus_ir.specs.Calls.{Calls, leaves, and_then, each, reported, Event}
use Rattle.walrus_ir.proofs.Reported.{reported_each, reported_put}
use Rattle.walrus_traversals.specs.Events.{AfterFirst}

pub FoldsTo-append :
    {P A : Type 0} (R : P → A → P → Type 0) (p : P) (xs : List A) (q : P) (ys : List A) (r : P) →
    FoldsTo R p xs q → FoldsTo R q ys r → FoldsTo R p (xs ++ ys) r
FoldsTo-append {P} R p [] q ys r h k = let F : P → Type 0 = λ z. FoldsTo R z ys r in subst F (sym h) k
FoldsTo-append R p (x ∷ xs) q ys r h k = (h.0, h.1, FoldsTo-append R h.0 xs q ys r h.2 k)

-- a first part of a list is one of the longer list too
take_front : {A : Type 0} (k : ℕ) (xs ys : List A) → (j : ℕ) × (take j (xs ++ ys) ≡ take k xs)
take_front zero xs ys = (0, refl)
take_front (suc k) [] ys = (0, refl)
take_front (suc k) (x ∷ xs) ys = let h = take_front k xs ys in (suc h.0, ap (λ l. x ∷ l) h.1)

-- a list and a first part of what follows it are a first part of both
take_after : {A : Type 0} (xs : List A) (k : ℕ) (ys : List A) →
    (j : ℕ) × (take j (xs ++ ys) ≡ xs ++ take k ys)
take_after [] k ys = (k, refl)
take_after (x ∷ xs) k ys = let h = take_after xs k ys in (suc h.0, ap (λ l. x ∷ l) h.1)

flat_map_parts : {X A : Type 0} (g : X → List A) (i : ℕ) (xs : List X) →
    flat_map g xs ≡ flat_map g (take i xs) ++ flat_map g (drop i xs)
flat_map_parts g zero xs = refl
flat_map_parts g (suc i) [] = refl
flat_map_parts g (suc i) (x ∷ xs) =
    ap (λ l. g x ++ l) (flat_map_parts g i xs)
    ∙ sym (append_assoc (g x) (flat_map g (take i xs)) (flat_map g (drop i xs)))

flat_map_next : {X A : Type 0} (g : X → List A) (xs : List X) (i : ℕ) (d : X) →
    i < length xs → flat_map g (take (i + 1) xs) ≡ flat_map g (take i xs) ++ g (get_or xs i d)
flat_map_next g xs i d h =
    ap (flat_map g) (take_more xs i d h) ∙ sym (flat_map_more g [] (take i xs) (get_or xs i d))

module _ {V : Type 0} (step : V → Event → V → Type 0) where
  -- all steps are some first ones
  pub after_all : (v w : V) (es : List Event) → FoldsTo step v es w → AfterFirst step v es w
  after_all v w es h =
      let F : List Event → Type 0 = λ l. FoldsTo step v l w in
      (length es, subst F (sym (take_all (length es) es (le_refl (length es)))) h)

  pub after_two : (v u t w : V) (d e : Event) (es : List Event) →
      step v d u → step u e t → w ≡ t → AfterFirst step v (d ∷ e ∷ es) w
  after_two v u t w d e es h i k = (2, (u, h, (t, i, sym k)))

  pub after_step : (v u w : V) (e : Event) (es : List Event) →
      step v e u → AfterFirst step u es w → AfterFirst step v (e ∷ es) w
  after_step v u w e es h k = (suc k.0, (u, h, k.1))

  -- some first steps of a part are some first steps of all
  pub after_front :
      (v w : V) (es more : List Event) → AfterFirst step v es w → AfterFirst step v (es ++ more) w
  after_front v w es more h =
      let t = take_front h.0 es more in
      (t.0, subst (λ (l : List Event). FoldsTo step v l w) (sym t.1) h.1)

  -- a part is done, then some first steps of the next
  pub after_part : (v u w : V) (done es : List Event) →
      FoldsTo step v done u → AfterFirst step u es w → AfterFirst step v (done ++ es) w
  after_part v u w done es h k =
      let F : List Event → Type 0 = λ l. FoldsTo step v l w in
      let t = take_after done k.0 es in
      (t.0, subst F (sym t.1) (FoldsTo-append step v done u (take k.0 es) w h k.1))

  -- whole items, then the next
  pub next_item : {X : Type 0} (v u w : V) (g : X → List Event) (i : ℕ) (xs : List X) (x : X) →
      FoldsTo step v (flat_map g (take i xs)) u → x ≡ get_or xs i x →
      i < length xs → FoldsTo step u (g x) w → FoldsTo step v (flat_map g (take (i + 1) xs)) w
  next_item v u w g i xs x h e lt k =
      let F : List Event → Type 0 = λ l. FoldsTo step v l w in
      subst F (sym (flat_map_next g xs i x lt ∙ ap (λ y. flat_map g (take i xs) ++ g y) (sym e)))
      (FoldsTo-append step v (flat_map g (take i xs)) u (g x) w h k)

  -- after whole items, none of the next
  pub after_items : {X : Type 0} (v w : V) (g : X → List Event) (i : ℕ) (xs : List X) →
      FoldsTo step v (flat_map g (take i xs)) w → AfterFirst step v (flat_map g xs) w
  after_items v w g i xs h =
      let F : List Event → Type 0 = λ l. AfterFirst step v l w in
      let done = flat_map g (take i xs) in
      subst F (sym (flat_map_parts g i xs)) (after_front v w done (flat_map g (drop i xs))
      (after_all v w done h))

  -- one call, then those over a list
  pub folds_list : {A B : Type 0} (v u w : V) (e : Event) (f : A → Calls A) (xs : List A) (put : List A → B) →
      step v e u → FoldsTo step u (flat_map (λ x. reported (f x)) xs) w →
      FoldsTo step v (e ∷ reported (and_then (each f xs) (λ ys. leaves (put ys)))) w
  folds_list v u w e f xs put h k =
      let F : List Event → Type 0 = λ l. FoldsTo step u l w in
      (u, h, subst F (sym (reported_put (each f xs) put ∙ reported_each f xs)) k)

  pub after_list : {A B : Type 0} (v u w : V) (e : Event) (f : A → Calls A) (xs : List A) (put : List A → B) →
      step v e u → AfterFirst step u (flat_map (λ x. reported (f x)) xs) w →
      AfterFirst step v (e ∷ reported (and_then (each f xs) (λ ys. leaves (put ys)))) w
  after_list v u w e f xs put h k =
      let F : List Event → Type 0 = λ l. AfterFirst step u l w in
      after_step v u w e (reported (and_then (each f xs) (λ ys. leaves (put ys)))) h
      (subst F (sym (reported_put (each f xs) put ∙ reported_each f xs)) k)
