-- The steps of a nesting check keep what is known of it.
use Rattle.std.proofs.Common.{◌≡◌, ℕ, zero, suc, ◌+◌, ◌-◌, ◌<◌, ◌⊎◌, inl, inr, List, [], ◌∷◌, ◌++◌, map, length, refl, sym, ap, subst, ◌∙◌, arith, Some, Contains, All, slice_set, length-append, take, reverse, get_or, slice_get}
use Rattle.std.proofs.lemmas.Bool.{cases_eq}
use Rattle.std.proofs.lemmas.Option.{slice_get_within, slice_get_read, get_or_from_slice_get}
use Rattle.std.proofs.lemmas.List.{length-set, length-map, take_at, reverse-append}
use Rattle.std.proofs.lemmas.List.Elements.{All-push, Contains-push, Contains-push_cases, Contains-append_left}
use Rattle.ir_instr.specs.Sequence.{Sequence}
use Rattle.ir_instr.specs.declared.instr.Instr.{Instr}
use Rattle.walrus_functions.specs.Body.{Body, Knows}
use Rattle.walrus_functions.specs.Nesting.{IsChild, IsReachable, at_start, below, children_of}
use Rattle.walrus_nesting.specs.Certificates.{ShowsNested, IsPath, ShowsCycle}
use Rattle.walrus_nesting.specs.Steps.Searching.{State, children_in, with_work, after_enter, after_leave, IsStacked, IsCovered, IsDone, AreMarks, IsSound, work_ahead, steps_left}
use Rattle.walrus_nesting.specs.declared.nesting.search.Mark.{Mark}
use Rattle.walrus_nesting.specs.declared.nesting.search.Mark.TheVariants.{New, Open, Done}
use Rattle.walrus_nesting.specs.declared.nesting.search.Work.{Work}
use Rattle.walrus_nesting.specs.declared.nesting.search.Work.TheVariants.{Enter, Leave}
use Rattle.walrus_nesting.proofs.Lists.{get_left, get_last, get_cases, get_at, set_here, set_there, contains_from_get, get_from_contains, all_at, all_from_get, distinct_from_once}
use Rattle.walrus_nesting.proofs.Nested.Exact.{path_reached}

-- membership in a list by its first
none_in : (id : ℕ) → Contains [] id → ⊥
none_in id c = let b = c.1 in omega arith

in_head : (x : ℕ) (xs : List ℕ) → Contains (x ∷ xs) x
in_head x xs = contains_from_get (x ∷ xs) 0 x refl

in_tail : (x : ℕ) (xs : List ℕ) (id : ℕ) → Contains xs id → Contains (x ∷ xs) id
in_tail x xs id c = let at = get_from_contains xs id c in contains_from_get (x ∷ xs) (suc at.0) id at.1

first_or_rest : (x : ℕ) (xs : List ℕ) (id i : ℕ) → slice_get (x ∷ xs) i ≡ Some id → (x ≡ id) ⊎ Contains xs id
first_or_rest x xs id zero h = inl cc
first_or_rest x xs id (suc i) h = inr (contains_from_get xs i id h)

in_cases : (x : ℕ) (xs : List ℕ) (id : ℕ) → Contains (x ∷ xs) id → (x ≡ id) ⊎ Contains xs id
in_cases x xs id c = let at = get_from_contains (x ∷ xs) id c in first_or_rest x xs id at.0 at.1

module _ (f : Body) (start : ℕ) where
  -- what was ahead may be done instead
  covered_weaker : (done more ahead later : List ℕ) (ws : List Work) →
      ((id : ℕ) → Contains done id → Contains more id) →
      ((id : ℕ) → Contains ahead id → Contains more id ⊎ Contains later id) →
      IsCovered f start done ahead ws → IsCovered f start more later ws
  covered_weaker done more ahead later [] d a h = elim h [ inl k ↦ inl (d start k) | inr k ↦ a start k ]
  covered_weaker done more ahead later (Enter c ∷ ws) d a h =
      covered_weaker done more (c ∷ ahead) (c ∷ later) ws d (λ id m. elim (in_cases c ahead id m) [
        | inl e ↦ inr (subst (λ (x : ℕ). Contains (c ∷ later) x) e (in_head c later))
        | inr k ↦ elim (a id k) [ inl g ↦ inl g | inr g ↦ inr (in_tail c later id g) ]
      ]) h
  covered_weaker done more ahead later (Leave q ∷ ws) d a h = (
    λ child c. elim (h.0 child c) [ inl k ↦ inl (d child k) | inr k ↦ a child k ],
    covered_weaker done more (q ∷ []) (q ∷ []) ws d (λ id m. inr m) h.1,
  )

  -- children that are entered first cover what they are to
  covered_children : (done cs ahead later : List ℕ) (ws : List Work) →
      ((id : ℕ) → Contains ahead id → Contains later id ⊎ Contains cs id) → IsCovered f start done ahead ws →
      IsCovered f start done later (map Enter cs ++ ws)
  covered_children done [] ahead later ws a h =
      covered_weaker done done ahead later ws (λ id m. m) (λ id m.
      elim (a id m) [ inl k ↦ inr k | inr k ↦ absurd (none_in id k) ]) h
  covered_children done (c ∷ cs) ahead later ws a h =
      covered_children done cs ahead (c ∷ later) ws (λ id m. elim (a id m) [
        | inl k ↦ inl (in_tail c later id k)
        | inr k ↦ elim (in_cases c cs id k) [
          | inl e ↦ inl (subst (λ (x : ℕ). Contains (c ∷ later) x) e (in_head c later))
          | inr g ↦ inr g
        ]
      ]) h

  covered_entered : (done : List ℕ) (id : ℕ) (ws : List Work) → IsCovered f start done [] (Enter id ∷ ws) →
      IsCovered f start done [] (map Enter (children_of f id) ++ Leave id ∷ ws)
  covered_entered done id ws h =
      covered_children done (children_of f id) (children_of f id) [] (Leave id ∷ ws) (λ x m. inr m)
      (λ child c. inr c, h)

  covered_left : (done : List ℕ) (id : ℕ) (ws : List Work) → IsCovered f start done [] (Leave id ∷ ws) →
      IsCovered f start (done ++ id ∷ []) [] ws
  covered_left done id ws h =
      covered_weaker done (done ++ id ∷ []) (id ∷ []) [] ws (λ x m. Contains-append_left done (id ∷ []) x m)
      (λ x m. elim (in_cases id [] x m) [
        | inl e ↦ inl (subst (λ (y : ℕ). Contains (done ++ id ∷ []) y) e (Contains-push done id))
        | inr k ↦ absurd (none_in x k)
      ]) h.1

  covered_skipped : (done : List ℕ) (id : ℕ) (ws : List Work) → Contains done id →
      IsCovered f start done [] (Enter id ∷ ws) → IsCovered f start done [] ws
  covered_skipped done id ws there h =
      covered_weaker done done (id ∷ []) [] ws (λ x m. m) (λ x m. elim (in_cases id [] x m) [
        | inl e ↦ inl (subst (λ (y : ℕ). Contains done y) e there)
        | inr k ↦ absurd (none_in x k)
      ]) h

  -- a path goes on to a child of its last
  path_push : (path : List ℕ) (last child : ℕ) → IsPath f start (path ++ last ∷ []) → IsChild f last child →
      IsPath f start ((path ++ last ∷ []) ++ child ∷ [])
  path_push path last child p c =
      let long : List ℕ = path ++ last ∷ [] in
      let size : length long ≡ length path + 1 = length-append path (last ∷ []) in
      record {
        begins = get_left long (child ∷ []) 0 start p.begins;
        children = λ i a b h k. elim (get_cases long child (suc i) b k) [
          | inl old ↦ (
              let within = slice_get_within long (suc i) b old in
              let at = get_at long i (omega arith) in
              let same = get_left long (child ∷ []) i at.0 at.1 in
              let e : at.0 ≡ a = cc in
              p.children i a b (at.1 ∙ ap (λ (x : ℕ). Some x) e) old)
          | inr new ↦ (
              let n = new.0 in
              let place : i ≡ length path = omega arith in
              let here : slice_get long i ≡ Some last = ap (slice_get long) place ∙ get_last path last in
              let same = get_left long (child ∷ []) i last here in
              let e : last ≡ a = cc in
              let g : child ≡ b = sym new.1 in
              subst (λ (x : ℕ). IsChild f x b) e (subst (λ (x : ℕ). IsChild f last x) g c))
        ];
      }

  stacked_children : (path cs : List ℕ) (id : ℕ) (ws : List Work) →
      ((child : ℕ) → Contains cs child → IsChild f id child) → IsPath f start (path ++ id ∷ []) →
      IsStacked f start path ws → IsStacked f start (path ++ id ∷ []) (map Enter cs ++ Leave id ∷ ws)
  stacked_children path [] id ws all p s = (path, refl, p, s)
  stacked_children path (c ∷ cs) id ws all p s = (
    path_push path id c p (all c (in_head c cs)),
    stacked_children path cs id ws (λ child m. all child (in_tail c cs child m)) p s,
  )

  done_push : (done : List ℕ) (id : ℕ) → IsDone f start done → (Contains done id → ⊥) →
      IsReachable f start id → Knows f id → ((child : ℕ) → IsChild f id child → Contains done child) →
      IsDone f start (done ++ id ∷ [])
  done_push done id d fresh reached known earlier = record {
    once = λ i j x h k. elim (get_cases done id i x h) [
      | inl a ↦ elim (get_cases done id j x k) [
        | inl b ↦ d.once i j x a b
        | inr b ↦ absurd (fresh (contains_from_get done i id (a ∙ ap (λ (y : ℕ). Some y) b.1)))
      ]
      | inr a ↦ elim (get_cases done id j x k) [
        | inl b ↦ absurd (fresh (contains_from_get done j id (b ∙ ap (λ (y : ℕ). Some y) a.1)))
        | inr b ↦ a.0 ∙ sym b.0
      ]
    ];
    reached = All-push (IsReachable f start) done id d.reached reached;
    known = All-push (Knows f) done id d.known known;
    children_first = λ i parent child h c. elim (get_cases done id i parent h) [
      | inl a ↦ (let first = d.children_first i parent child a c in
          (first.0, first.1, get_left done (id ∷ []) first.0 child first.2))
      | inr a ↦ (
          let at = get_from_contains done child (earlier child (subst (λ (x : ℕ). IsChild f x child) a.1 c))
          in
          let place = a.0 in
          let within = slice_get_within done at.0 child at.1 in
          (at.0, omega arith, get_left done (id ∷ []) at.0 child at.1))
    ];
  }

marks_entered : (f : Body) (marks : List Mark) (path done : List ℕ) (id : ℕ) →
    AreMarks f marks path done → slice_get marks id ≡ Some New →
    AreMarks f (slice_set marks id (Open (length path))) (path ++ id ∷ []) done
marks_entered f marks path done id m new =
    let at : slice_get (slice_set marks id (Open (length path))) id ≡ Some (Open (length path)) =
    set_here marks id New (Open (length path)) new in
    record {
      all = length-set marks id (Open (length path)) ∙ m.all;
      opened = λ x k h. elim (cases_eq x id) [
        | inl e ↦ (
            let here : slice_get (slice_set marks id (Open (length path))) x ≡ Some (Open (length path)) =
            ap (slice_get (slice_set marks id (Open (length path)))) e ∙ at in
            let place : k ≡ length path = cc in
            ap (slice_get (path ++ id ∷ [])) place ∙ get_last path id ∙ ap (λ (y : ℕ). Some y) (sym e))
        | inr other ↦ get_left path (id ∷ []) k x
            (m.opened x k (sym (set_there marks id x (Open (length path)) other) ∙ h))
      ];
      on_path = λ x k h. elim (get_cases path id k x h) [
        | inl old ↦ (
            let mark = m.on_path x k old in
            set_there marks id x (Open (length path)) (λ e. let here : slice_get marks id ≡ Some (Open k) =
            sym (ap (slice_get marks) e) ∙ mark in let no : ⊥ = cc in no) ∙ mark)
        | inr last ↦ ap (slice_get (slice_set marks id (Open (length path)))) last.1 ∙ at
            ∙ ap (λ (y : ℕ). Some (Open y)) (sym last.0)
      ];
      finished = λ x h. elim (cases_eq x id) [
        | inl e ↦ (let here : slice_get (slice_set marks id (Open (length path))) id ≡ Some Done =
            sym (ap (slice_get (slice_set marks id (Open (length path)))) e) ∙ h in let no : ⊥ = cc in
            absurd no)
        | inr other ↦ m.finished x (sym (set_there marks id x (Open (length path)) other) ∙ h)
      ];
      in_done = λ x there.
          let mark = m.in_done x there in
          set_there marks id x (Open (length path)) (λ e. let here : slice_get marks id ≡ Some Done =
          sym (ap (slice_get marks) e) ∙ mark in let no : ⊥ = cc in no) ∙ mark;
    }

marks_left : (f : Body) (marks : List Mark) (before done : List ℕ) (id : ℕ) →
    AreMarks f marks (before ++ id ∷ []) done → AreMarks f (slice_set marks id Done) before (done ++ id ∷ [])
marks_left f marks before done id m =
    let open' : slice_get marks id ≡ Some (Open (length before)) =
    m.on_path id (length before) (get_last before id) in
    let at : slice_get (slice_set marks id Done) id ≡ Some Done =
    set_here marks id (Open (length before)) Done open' in
    record {
      all = length-set marks id Done ∙ m.all;
      opened = λ x k h. elim (cases_eq x id) [
        | inl e ↦ (let here : slice_get (slice_set marks id Done) id ≡ Some (Open k) =
            sym (ap (slice_get (slice_set marks id Done)) e) ∙ h in let no : ⊥ = cc in absurd no)
        | inr other ↦ elim (get_cases before id k x
            (m.opened x k (sym (set_there marks id x Done other) ∙ h))) [
              | inl old ↦ old
              | inr last ↦ absurd (other last.1)
            ]
      ];
      on_path = λ x k h.
          let mark = m.on_path x k (get_left before (id ∷ []) k x h) in
          let within = slice_get_within before k x h in
          set_there marks id x Done (λ e. let here : slice_get marks id ≡ Some (Open k) =
          sym (ap (slice_get marks) e) ∙ mark in let same : k ≡ length before = cc in omega arith) ∙ mark;
      finished = λ x h. elim (cases_eq x id) [
        | inl e ↦ subst (λ (y : ℕ). Contains (done ++ id ∷ []) y) (sym e) (Contains-push done id)
        | inr other ↦ Contains-append_left done (id ∷ []) x
            (m.finished x (sym (set_there marks id x Done other) ∙ h))
      ];
      in_done = λ x there. elim (Contains-push_cases done id x there) [
        | inl old ↦ (
            let mark = m.in_done x old in
            set_there marks id x Done (λ e. let here : slice_get marks id ≡ Some Done =
            sym (ap (slice_get marks) e) ∙ mark in let no : ⊥ = cc in no) ∙ mark)
        | inr e ↦ ap (slice_get (slice_set marks id Done)) (sym e) ∙ at
      ];
    }

-- how the work ahead falls
ahead_entered :
    (f : Body) (first : ℕ) (marks : List Mark) (i id k : ℕ) → first + i ≡ id →
    slice_get marks i ≡ Some New →
    work_ahead f first (slice_set marks i (Open k)) + suc (length (children_of f id)) ≡
    work_ahead f first marks
ahead_entered f first [] i id k e h = absurd (cc)
ahead_entered f first (m ∷ marks) zero id k e h =
    let same : m ≡ New = cc in
    let at : first ≡ id = omega arith in
    let F : Mark → Type 0 = λ x. work_ahead f (suc first) marks + suc (length (children_of f id)) ≡ work_ahead
    f first (x ∷ marks) in
    let G : ℕ → Type 0 = λ x. work_ahead f (suc first) marks + suc (length (children_of f x)) ≡ suc
    (length (children_of f first)) + work_ahead f (suc first) marks in
    subst F (sym same) (subst G at (omega arith))
ahead_entered f first (New ∷ marks) (suc i) id k e h = let less =
    ahead_entered f (suc first) marks i id k (omega arith) h in omega arith
ahead_entered f first (Open p ∷ marks) (suc i) id k e h =
    ahead_entered f (suc first) marks i id k (omega arith) h
ahead_entered f first (Done ∷ marks) (suc i) id k e h =
    ahead_entered f (suc first) marks i id k (omega arith) h

ahead_left : (f : Body) (first : ℕ) (marks : List Mark) (i k : ℕ) →
    slice_get marks i ≡ Some (Open k) → work_ahead f first (slice_set marks i Done) ≡ work_ahead f first marks
ahead_left f first [] i k h = refl
ahead_left f first (m ∷ marks) zero k h =
    let same : m ≡ Open k = cc in
    subst (λ (x : Mark). work_ahead f (suc first) marks ≡ work_ahead f first (x ∷ marks)) (sym same) refl
ahead_left f first (New ∷ marks) (suc i) k h =
    ap (λ n. suc (length (children_of f first)) + n) (ahead_left f (suc first) marks i k h)
ahead_left f first (Open p ∷ marks) (suc i) k h = ahead_left f (suc first) marks i k h
ahead_left f first (Done ∷ marks) (suc i) k h = ahead_left f (suc first) marks i k h

pub enter_sound : (f : Body) (s : State) (id : ℕ) → Knows f id →
    slice_get s.marks id ≡ Some New → IsSound f (with_work (Enter id) s) → IsSound f (after_enter f id s)
enter_sound f s id known new h = record {
  marks = marks_entered f s.marks s.path s.done id h.marks new;
  known = All-push (Knows f) s.path id h.known known;
  stacked = stacked_children f s.start s.path (children_of f id) id s.work (λ child m. m) h.stacked.0
      h.stacked.1;
  covered = covered_entered f s.start s.done id s.work h.covered;
  listed = h.listed;
}

entered_long : (cs : List ℕ) (ws : List Work) (id : ℕ) →
    length (map Enter cs ++ Leave id ∷ ws) ≡ length cs + suc (length ws)
entered_long cs ws id = length-append (map Enter cs) (Leave id ∷ ws)
    ∙ ap (λ n. n + suc (length ws)) (length-map cs Enter)

pub enter_fewer : (f : Body) (s : State) (id : ℕ) → slice_get s.marks id ≡ Some New →
    steps_left f (after_enter f id s) < steps_left f (with_work (Enter id) s)
enter_fewer f s id new =
    let falls = ahead_entered f 0 s.marks id id (length s.path) (omega arith) new in
    let long = entered_long (children_of f id) s.work id in
    omega arith

leave_at : (f : Body) (s : State) (id : ℕ) (before : List ℕ) → s.path ≡ before ++ id ∷ [] →
    AreMarks f s.marks s.path s.done → slice_get s.marks id ≡ Some (Open (length before))
leave_at f s id before e m = m.on_path id (length before) (ap (λ (p : List ℕ). slice_get p (length before)) e
    ∙ get_last before id)

leave_known : (f : Body) (before : List ℕ) (id : ℕ) → All (Knows f) (before ++ id ∷ []) → All (Knows f) before
leave_known f before id k = all_from_get (Knows f) before (λ i x h.
    all_at (Knows f) (before ++ id ∷ []) i x k (get_left before (id ∷ []) i x h))

leave_to : (f : Body) (s : State) (id : ℕ) (before : List ℕ) → s.path ≡ before ++ id ∷ [] →
    IsSound f (with_work (Leave id) s) → IsPath f s.start s.path → IsStacked f s.start before s.work →
    IsSound f (record s { marks = slice_set s.marks id Done; path = before; done = s.done ++ id ∷ [] })
leave_to f s id before e h p stacked =
    let last : slice_get s.path (length before) ≡ Some id = ap (λ (q : List ℕ). slice_get q (length before)) e
    ∙ get_last before id in
    let mark = h.marks.on_path id (length before) last in
    let M : List ℕ → Type 0 = λ q. AreMarks f s.marks q s.done in
    record {
      marks = marks_left f s.marks before s.done id (subst M e h.marks);
      known = leave_known f before id (subst (λ (q : List ℕ). All (Knows f) q) e h.known);
      stacked = stacked;
      covered = covered_left f s.start s.done id s.work h.covered;
      listed = done_push f s.start s.done id h.listed
          (λ there. let is_done = h.marks.in_done id there in let no : ⊥ = cc in no)
          (path_reached f s.start s.path p (length before) id last)
          (all_at (Knows f) s.path (length before) id h.known last)
          (λ child c. elim (h.covered.0 child c) [ inl k ↦ k | inr k ↦ absurd (none_in child k) ]);
    }

-- the path without its last
taken : (before path : List ℕ) (id : ℕ) → path ≡ before ++ id ∷ [] → take (length path - 1) path ≡ before
taken before path id e =
    let long = length-append before (id ∷ []) in
    let same : length path ≡ length (before ++ id ∷ []) = ap (length {A = ℕ}) e in
    let short : length before ≡ length path - 1 = omega arith in
    ap (take (length path - 1)) e ∙ take_at before (id ∷ []) (length path - 1) short

pub leave_sound :
    (f : Body) (s : State) (id : ℕ) → IsSound f (with_work (Leave id) s) → IsSound f (after_leave id s)
leave_sound f s id h =
    let before = h.stacked.0 in
    let e = taken before s.path id h.stacked.1 in
    subst (λ (p : List ℕ). IsSound f (record s {
      marks = slice_set s.marks id Done;
      path = p;
      done = s.done ++ id ∷ [];
    })) (sym e) (leave_to f s id before h.stacked.1 h h.stacked.2 h.stacked.3)

pub leave_fewer : (f : Body) (s : State) (id : ℕ) → IsSound f (with_work (Leave id) s) →
    steps_left f (after_leave id s) < steps_left f (with_work (Leave id) s)
leave_fewer f s id h =
    let mark = leave_at f s id h.stacked.0 h.stacked.1 h.marks in
    let same = ahead_left f 0 s.marks id (length h.stacked.0) mark in
    omega arith

-- what is to be left has a mark
pub leave_marked : (f : Body) (s : State) (id : ℕ) → IsSound f (with_work (Leave id) s) → id < length s.marks
leave_marked f s id h = slice_get_within s.marks id (Open (length h.stacked.0))
    (leave_at f s id h.stacked.0 h.stacked.1 h.marks)

-- a sequence that is done is not entered again
pub skip_sound : (f : Body) (s : State) (id : ℕ) →
    slice_get s.marks id ≡ Some Done → IsSound f (with_work (Enter id) s) → IsSound f s
skip_sound f s id mark h = record {
  marks = h.marks;
  known = h.known;
  stacked = h.stacked.1;
  covered = covered_skipped f s.start s.done id s.work (h.marks.finished id mark) h.covered;
  listed = h.listed;
}

-- a path that goes on to an id is one by itself, unless it is empty
path_back : (f : Body) (start : ℕ) (path : List ℕ) (id place there : ℕ) →
    IsPath f start (path ++ id ∷ []) → slice_get path place ≡ Some there → IsPath f start path
path_back f start path id place there p h =
    let within = slice_get_within path place there h in
    let at = get_at path 0 (omega arith) in
    let same = get_left path (id ∷ []) 0 at.0 at.1 in
    let first = p.begins in
    let e : at.0 ≡ start = cc in
    record {
      begins = at.1 ∙ ap (λ (x : ℕ). Some x) e;
      children = λ i a b k l. p.children i a b (get_left path (id ∷ []) i a k)
          (get_left path (id ∷ []) (suc i) b l);
    }

-- an id that is on the path closes a cycle
pub back_shows : (f : Body) (s : State) (id place : ℕ) → slice_get s.marks id ≡ Some (Open place) →
    IsSound f (with_work (Enter id) s) → ShowsCycle f s.start s.path place
back_shows f s id place mark h =
    let there = h.marks.opened id place mark in
    let p = h.stacked.0 in
    record {
      is_path = path_back f s.start s.path id place id p there;
      known = h.known;
      within = slice_get_within s.path place id there;
      back = λ last first at here.
          let e : id ≡ first = cc in
          let within = slice_get_within s.path place id there in
          let long : length s.path ≡ suc (length s.path - 1) = omega arith in
          let end : slice_get (s.path ++ id ∷ []) (suc (length s.path - 1)) ≡ Some id =
          ap (slice_get (s.path ++ id ∷ [])) (sym long) ∙ get_last s.path id in
          subst (λ (x : ℕ). IsChild f last x) e (p.children (length s.path - 1) last id
          (get_left s.path (id ∷ []) (length s.path - 1) last at) end);
    }

-- at the end of all work the list is that of a nested body
all_reached : (f : Body) (start : ℕ) (list : List ℕ) →
    IsDone f start list → Contains list start → (id : ℕ) → IsReachable f start id → Contains list id
all_reached f start list d first id at_start = first
all_reached f start list d first id (below parent child r c) =
    let at = get_from_contains list parent (all_reached f start list d first parent r) in
    let k = d.children_first at.0 parent child at.1 c in
    contains_from_get list k.0 child k.2

done_shows : (f : Body) (start : ℕ) (list : List ℕ) →
    IsDone f start list → Contains list start → ShowsNested f start list
done_shows f start list d first = record {
  once = distinct_from_once list d.once;
  reached = λ id. (
    λ m. let at = get_from_contains list id m in
        all_at (IsReachable f start) list at.0 id d.reached at.1,
    all_reached f start list d first id,
  );
  closed = λ parent child m c.
      let at = get_from_contains list parent m in
      let k = d.children_first at.0 parent child at.1 c in
      contains_from_get list k.0 child k.2;
  known = d.known;
  children_first = d.children_first;
}

pub end_shows : (f : Body) (s : State) → IsSound f s → s.work ≡ [] → ShowsNested f s.start s.done
end_shows f s h e =
    let covered = subst (λ (ws : List Work). IsCovered f s.start s.done [] ws) e h.covered in
    done_shows f s.start s.done h.listed (elim covered [ inl k ↦ k | inr k ↦ absurd (none_in s.start k) ])

-- the state that a call leaves, by its parts
pub left_is : (s : State) (id len at : ℕ) (path done : List ℕ) → len ≡ length s.path → at ≡ id →
    path ≡ take (len - 1) s.path → done ≡ s.done ++ id ∷ [] →
    record s { marks = slice_set s.marks at Done; path = path; done = done } ≡ after_leave id s
left_is s id len at path done a b d e = cc

pub record Enters (f : Body) (s : State) (id len at : ℕ) (path : List ℕ) (seq : Sequence)
    (instrs : List (Instr × ℕ)) (pushed work : List Work) : Type 0 where
  pub size : len ≡ length s.path
  pub place : at ≡ id
  pub longer : path ≡ s.path ++ id ∷ []
  pub found : slice_get f.seqs id ≡ Some seq
  pub shown : instrs ≡ seq.instrs
  pub first : reverse pushed ≡ Leave id ∷ s.work
  pub rest : reverse work ≡ map Enter (children_in instrs) ++ reverse pushed

reverse_push : (ws : List Work) (w : Work) → reverse (ws ++ w ∷ []) ≡ w ∷ reverse ws
reverse_push ws w = reverse-append ws (w ∷ [])

pub pushed_first : (old new : List Work) (w : Work) → new ≡ old ++ w ∷ [] → reverse new ≡ w ∷ reverse old
pushed_first old new w e = ap (reverse {A = Work}) e ∙ reverse_push old w

pub entered_is : (f : Body) (s : State) (id len at : ℕ) (path : List ℕ) (seq : Sequence)
    (instrs : List (Instr × ℕ)) (pushed work : List Work) → Enters f s id len at path seq instrs pushed work →
    record s { marks = slice_set s.marks at (Open len); path = path; work = reverse work } ≡ after_enter f id
    s
entered_is f s id len at path seq instrs pushed work l =
    let a = l.place in
    let b = l.size in
    let d = l.longer in
    let all : children_of f id ≡ children_in instrs =
    ap (λ (s : Sequence). children_in s.instrs) (get_or_from_slice_get f.seqs id seq _ l.found)
    ∙ ap children_in (sym l.shown) in
    let w : reverse work ≡ map Enter (children_of f id) ++ Leave id ∷ s.work = l.rest
    ∙ ap (λ (ws : List Work). map Enter (children_in instrs) ++ ws) l.first
    ∙ ap (λ (cs : List ℕ). map Enter cs ++ Leave id ∷ s.work) (sym all) in
    cc

-- a read of the marks
pub mark_read : (marks shown : List Mark) (i id : ℕ) (x : Mark) →
    marks ≡ shown → i ≡ id → id < length shown → x ≡ get_or marks i x → slice_get shown id ≡ Some x
mark_read marks shown i id x same place within read =
    let r : x ≡ get_or shown id x = cc in
    slice_get_read shown (length shown) id x refl within r

-- a known id has a mark
pub known_marked : (f : Body) (s : State) (id : ℕ) → Knows f id → IsSound f s → id < length s.marks
known_marked f s id known h = let e = h.marks.all in omega arith
