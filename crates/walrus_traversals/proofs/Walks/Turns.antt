-- pieces of work in turn
use Rattle.std.proofs.Common.{◌≡◌, ℕ, zero, suc, ◌+◌, ◌<◌, ◌≤◌, List, [], ◌∷◌, ◌++◌, length, reverse, map, get_or, refl, sym, ap, ◌∙◌, subst, arith, append_assoc, append-nil, length-append, slice_get, Option, Some, None, false, true≢false}
use Rattle.std.specs.List.{AllByRecursion, FoldsTo}
use Rattle.std.proofs.lemmas.Option.{slice_get_read, slice_get_past}
use Rattle.ir_instr.specs.declared.instr.Instr.{Instr}
use Rattle.walrus_ir.specs.Calls.{Event, at}
use Rattle.walrus_ir.specs.Hooks.{end_instr_seq}
use Rattle.walrus_functions.specs.Body.{Body, sequence, Knows}
use Rattle.walrus_functions.specs.Nesting.{children, IsNested}
use Rattle.walrus_nesting.specs.Pushing.{Pushes}
use Rattle.walrus_nesting.proofs.Pushed.{pushed_behind}
use Rattle.walrus_traversals.specs.Events.{AfterFirst, own_events, events}
use Rattle.walrus_traversals.specs.Steps.Walking.{reports, leaves, at_place, after_place, seq_of, has_items, Does, Goes, Stops}
use Rattle.walrus_traversals.specs.declared.traversals.stack.Work.{Work}
use Rattle.walrus_traversals.specs.declared.traversals.stack.Work.TheVariants.{Enter, Resume}
use Rattle.walrus_traversals.proofs.Walks.Folds.{FoldsTo-append, after_part, after_front}
use Rattle.walrus_traversals.proofs.Walks.Left.{IsSound, left, left-append, work_events, work_parts, sound_leaves, sound_knows, reports_long}
use Rattle.walrus_traversals.proofs.Walks.Levels.{All-append, All-front, All-back, within_from_nested}

-- what was left is what the last piece of work reports, then what is left after it
next_left : (f : Body) (ws new : List Work) (p : Work) →
    IsSound f p → new ≡ ws ++ leaves f p → left f (ws ++ p ∷ []) ≡ reports f p ++ left f new
next_left f ws new p h e =
    left-append f ws (p ∷ []) ∙ ap (λ l. l ++ left f ws) (append-nil (work_events f p) ∙ work_parts f p h)
    ∙ append_assoc (reports f p) (left f (leaves f p)) (left f ws)
    ∙ ap (λ l. reports f p ++ l) (sym (ap (left f) e ∙ left-append f ws (leaves f p)))

-- a walk so far: what it reported, and that this and what is left are all events
abbrev pub Trail : {V : Type 0} → (V → Event → V → Type 0) → Body → V → List Event → V → List Work → Type 0
Trail step f o es v all =
    AllByRecursion (IsSound f) all × (done : List Event) × FoldsTo step o done v × (es ≡ done ++ left f all)

module _ {V : Type 0} (step : V → Event → V → Type 0) (f : Body) where
  pub started : (v : V) (q : ℕ) (all : List Work) →
      all ≡ Enter q ∷ [] → IsNested f q → Trail step f v (events f q) v all
  started v q all e h = (
    subst (λ (l : List Work). AllByRecursion (IsSound f) l) (sym e) (within_from_nested f q h, tt),
    [],
    refl,
    sym (ap (left f) e ∙ append-nil (events f q)),
  )

  module _ (o : V) (es : List Event) where
    next_sound : (v : V) (ws : List Work) (p : Work) →
        Trail step f o es v (ws ++ p ∷ []) → AllByRecursion (IsSound f) ws × IsSound f p
    next_sound v ws p h = (All-front (IsSound f) ws (p ∷ []) h.0, (All-back (IsSound f) ws (p ∷ []) h.0).0)

    go_on : (v w : V) (ws new : List Work) (p : Work) → Trail step f o es v (ws ++ p ∷ []) →
        FoldsTo step v (reports f p) w → new ≡ ws ++ leaves f p → Trail step f o es w new
    go_on v w ws new p h k e =
        let F : List Work → Type 0 = λ l. AllByRecursion (IsSound f) l in
        let s = next_sound v ws p h in (
          subst F (sym e) (All-append (IsSound f) ws (leaves f p) s.0 (sound_leaves f p s.1)),
          h.1 ++ reports f p,
          FoldsTo-append step o h.1 v (reports f p) w h.2 k,
          h.3 ∙ ap (λ l. h.1 ++ l) (next_left f ws new p s.1 e)
              ∙ sym (append_assoc h.1 (reports f p) (left f new)),
        )

    does_on : (n : ℕ) (v w : V) (all new : List Work) →
        Trail step f o es v all → Does step f n v all w new → Trail step f o es w new
    does_on zero v w all new h k =
        let G : List Work → Type 0 = λ l. Trail step f o es v l in
        subst (λ (u : V). Trail step f o es u new) (sym k.0) (subst G (sym k.1) h)
    does_on (suc n) v w all new h k =
        go_on k.0 w k.1 new k.2 (does_on n v k.0 all (k.1 ++ k.2 ∷ []) h k.3) k.4 k.5

    -- each piece of work leaves less
    less_left : (n : ℕ) (v w : V) (all new : List Work) →
        Trail step f o es v all → Does step f n v all w new → length (left f new) + n ≤ length (left f all)
    less_left zero v w all new h k = let e = ap (λ l. length (left f l)) k.1 in omega arith
    less_left (suc n) v w all new h k =
        let before = less_left n v k.0 all (k.1 ++ k.2 ∷ []) h k.3 in
        let s = next_sound k.0 k.1 k.2 (does_on n v k.0 all (k.1 ++ k.2 ∷ []) h k.3) in
        let e = ap (length {A = Event}) (next_left f k.1 new k.2 s.1 k.5)
        ∙ length-append (reports f k.2) (left f new) in
        let long = reports_long f k.2 in
        omega arith

    pub next_knows : (v : V) (all ws : List Work) (p : Work) →
        all ≡ ws ++ p ∷ [] → Trail step f o es v all → Knows f (seq_of p)
    next_knows v all ws p e h =
        sound_knows f p (next_sound v ws p (subst (λ (l : List Work). Trail step f o es v l) e h)).1

    pub turned : (v w : V) (all ws new : List Work) (p : Work) → all ≡ ws ++ p ∷ [] →
        Trail step f o es v all → Goes step f v (ws ++ p ∷ []) w new → Trail step f o es w new
    turned v w all ws new p e h k =
        does_on (suc k.0) v w (ws ++ p ∷ []) new (subst (λ (l : List Work). Trail step f o es v l) e h) k.1

    pub turned_less :
        (v w : V) (all ws new : List Work) (p : Work) → all ≡ ws ++ p ∷ [] →
        Trail step f o es v all → Goes step f v (ws ++ p ∷ []) w new →
        length (left f new) < length (left f all)
    turned_less v w all ws new p e h k =
        let F : List Work → Type 0 = λ l. Trail step f o es v l in
        let less = less_left (suc k.0) v w (ws ++ p ∷ []) new (subst F e h) k.1 in
        let same = ap (λ l. length (left f l)) e in
        omega arith

    pub turned_stops : (v w : V) (all ws : List Work) (p : Work) → all ≡ ws ++ p ∷ [] →
        Trail step f o es v all → Stops step f v (ws ++ p ∷ []) w → AfterFirst step o es w
    turned_stops v w all ws p e h k =
        let F : List Work → Type 0 = λ l. Trail step f o es v l in
        let G : List Event → Type 0 = λ l. AfterFirst step o l w in
        let t = does_on k.0 v k.1 (ws ++ p ∷ []) (k.2 ++ k.3 ∷ []) (subst F e h) k.4 in
        let rest = left f (k.2 ++ leaves f k.3) in
        let s = next_sound k.1 k.2 k.3 t in
        subst G (sym (t.3 ∙ ap (λ l. t.1 ++ l) (next_left f k.2 (k.2 ++ leaves f k.3) k.3 s.1 refl)))
        (after_part step o k.1 w t.1 (reports f k.3 ++ rest) t.2
        (after_front step k.1 w (reports f k.3) rest k.5))

  one_before : (n : ℕ) (v u w : V) (ws new : List Work) (p : Work) → FoldsTo step v (reports f p) u →
      Does step f n u (ws ++ leaves f p) w new → Does step f (suc n) v (ws ++ p ∷ []) w new
  one_before zero v u w ws new p h k =
      (v, ws, p, (refl, refl), subst (λ (x : V). FoldsTo step v (reports f p) x) (sym k.0) h, k.1)
  one_before (suc n) v u w ws new p h k =
      (k.0, k.1, k.2, one_before n v u k.0 ws (k.1 ++ k.2 ∷ []) p h k.3, k.4, k.5)

  pub goes_first : (v u w : V) (ws new : List Work) (q : ℕ) → FoldsTo step v (reports f (Enter q)) u →
      Goes step f u (ws ++ Resume q 0 ∷ []) w new → Goes step f v (ws ++ Enter q ∷ []) w new
  goes_first v u w ws new q h k = (suc k.0, one_before (suc k.0) v u w ws new (Enter q) h k.1)

  pub stops_first : (v u w : V) (ws : List Work) (q : ℕ) → FoldsTo step v (reports f (Enter q)) u →
      Stops step f u (ws ++ Resume q 0 ∷ []) w → Stops step f v (ws ++ Enter q ∷ []) w
  stops_first v u w ws q h k =
      (suc k.0, k.1, k.2, k.3, one_before k.0 v u k.1 ws (k.2 ++ k.3 ∷ []) (Enter q) h k.4, k.5)

  module _ (n : ℕ) (v u w : V) (all ws : List Work) (q k : ℕ)
      (so_far : Does step f n v all u (ws ++ Resume q k ∷ [])) where
    -- the instruction at a place
    pub passed : (new : List Work) (x : Instr × ℕ) →
        slice_get (sequence f q).instrs k ≡ Some x → FoldsTo step u (own_events x) w →
        new ≡ ws ++ Resume q (k + 1) ∷ reverse (map Enter (children x.0)) → Does step f (suc n) v all w new
    passed new x here h e =
        let F : Option (Instr × ℕ) → Type 0 = λ o. FoldsTo step u (at_place (sequence f q) o) w in
        (u, ws, Resume q k, so_far, subst F (sym here) h, e ∙ sym (ap (λ o. ws ++ after_place q k o) here))

    -- a first part of it
    pub stopped : (x : Instr × ℕ) →
        slice_get (sequence f q).instrs k ≡ Some x → AfterFirst step u (own_events x) w → Stops step f v all w
    stopped x here h =
        let F : Option (Instr × ℕ) → Type 0 = λ o. AfterFirst step u (at_place (sequence f q) o) w in
        (n, u, ws, Resume q k, so_far, subst F (sym here) h)

    -- the end
    pub closed : (new : List Work) → slice_get (sequence f q).instrs k ≡ None →
        step u (at end_instr_seq (sequence f q)) w → new ≡ ws → Goes step f v all w new
    closed new past h e =
        let F : Option (Instr × ℕ) → Type 0 = λ o. FoldsTo step u (at_place (sequence f q) o) w in (
          n,
          (
            u,
            ws,
            Resume q k,
            so_far,
            subst F (sym past) (w, h, refl),
            e ∙ sym (ap (λ o. ws ++ after_place q k o) past ∙ append-nil ws),
          ),
        )

pub no_items : (xs : List ℕ) → false ≡ has_items xs → xs ≡ []
no_items [] e = refl
no_items (x ∷ xs) e = absurd (true≢false (sym e))

pub item_at : {A : Type 0} (xs ys : List A) (k : ℕ) (x : A) →
    xs ≡ ys → k < length xs → x ≡ get_or xs k x → slice_get ys k ≡ Some x
item_at {A} xs ys k x e lt get =
    subst (λ (l : List A). slice_get l k ≡ Some x) e (slice_get_read xs (length xs) k x refl lt get)

pub no_item : {A : Type 0} (xs ys : List A) (k : ℕ) → xs ≡ ys → length xs ≤ k → slice_get ys k ≡ None
no_item {A} xs ys k e past = subst (λ (l : List A). slice_get l k ≡ None) e (slice_get_past xs k past)

-- a piece of work, and on it the children of an instruction
pub children_left : (p : Work) (xs : List ℕ) (old between new : List Work) → between ≡ old ++ p ∷ [] →
    Pushes (λ id w. w ≡ Enter id) xs between new → new ≡ old ++ p ∷ reverse (map Enter xs)
children_left p xs old between new e h =
    pushed_behind (λ id w. w ≡ Enter id) Enter (λ x t k. k) xs between new h
    ∙ ap (λ l. l ++ reverse (map Enter xs)) e ∙ append_assoc old (p ∷ []) (reverse (map Enter xs))
