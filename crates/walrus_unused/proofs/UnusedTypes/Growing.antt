-- What marking ids does.
use Rattle.std.proofs.Common.{◌≡◌, ◌≢◌, ℕ, zero, suc, ◌<◌, ◌⊎◌, inl, inr, Bool, true, false, cond, nat_eq, eqb-true, List, [], ◌∷◌, length, refl, sym, subst, ◌∙◌, arith, Contains, All, get_or, set, get_or-set_same, get_or-set_other}
use Rattle.std.proofs.lemmas.Bool.{eqb-false}
use Rattle.std.proofs.lemmas.List.{length-set}
use Rattle.walrus_unused.specs.Steps.Marking.{State, is_marked, IsMarked, with_mark, with_marks, unmarked_count, steps_left}
use Rattle.walrus_unused.proofs.UnusedTypes.Elements.{contains_none, contains_first, contains_rest, contains_cases, all_rest, all_first}

-- marks and work came, of ids of which P holds, and nothing went
pub record Grows (P : ℕ → Type 0) (s new : State) : Type 0 where
  pub size : length new.marks ≡ length s.marks
  pub kept : (id : ℕ) → IsMarked s id → IsMarked new id
  pub fresh : (id : ℕ) → IsMarked new id → IsMarked s id ⊎ (P id × Contains new.work id)
  pub work : (id : ℕ) → Contains s.work id → Contains new.work id
  pub back : (id : ℕ) → Contains new.work id → Contains s.work id ⊎ IsMarked new id
  pub steps : steps_left new ≡ steps_left s

pub grows_none : (P : ℕ → Type 0) (s : State) → Grows P s s
grows_none P s = record {
  size = refl;
  kept = λ id h. h;
  fresh = λ id h. inl h;
  work = λ id h. h;
  back = λ id h. inl h;
  steps = refl;
}

pub grows_both :
    (P : ℕ → Type 0) (s mid new : State) → Grows P s mid → Grows P mid new → Grows P s new
grows_both P s mid new a b = record {
  size = b.size ∙ a.size;
  kept = λ id h. b.kept id (a.kept id h);
  fresh = λ id h. elim (b.fresh id h) [
    | inl m ↦ elim (a.fresh id m) [ inl k ↦ inl k | inr k ↦ inr (k.0, b.work id k.1) ]
    | inr k ↦ inr k
  ];
  work = λ id h. b.work id (a.work id h);
  back = λ id h. elim (b.back id h) [
    | inl m ↦ elim (a.back id m) [ inl k ↦ inl k | inr k ↦ inr (b.kept id k) ]
    | inr k ↦ inr k
  ];
  steps = b.steps ∙ a.steps;
}

pub grows_more :
    (P Q : ℕ → Type 0) (s new : State) → ((id : ℕ) → P id → Q id) → Grows P s new → Grows Q s new
grows_more P Q s new more a = record {
  size = a.size;
  kept = a.kept;
  fresh = λ id h. elim (a.fresh id h) [ inl k ↦ inl k | inr k ↦ inr (more id k.0, k.1) ];
  work = a.work;
  back = a.back;
  steps = a.steps;
}

-- one mark more
unmarked_set :
    (marks : List Bool) (id : ℕ) → id < length marks → get_or marks id false ≡ false →
    suc (unmarked_count (set marks id true)) ≡ unmarked_count marks
unmarked_set [] id below none = absurd (omega (arith, below))
unmarked_set (true ∷ marks) zero below none = absurd (cc)
unmarked_set (false ∷ marks) zero below none = omega arith
unmarked_set (true ∷ marks) (suc id) below none = unmarked_set marks id (omega (arith, below)) none
unmarked_set (false ∷ marks) (suc id) below none = let rest =
    unmarked_set marks id (omega (arith, below)) none in omega (arith, rest)

module _ (s : State) (id : ℕ) (below : id < length s.marks) where
  abbrev grown : State
  grown = record { marks = set s.marks id true; work = id ∷ s.work }

  mark_here : IsMarked grown id
  mark_here = get_or-set_same s.marks id true false below

  mark_there : (x : ℕ) → x ≢ id → is_marked grown x ≡ is_marked s x
  mark_there x differ = get_or-set_other s.marks id x true false differ

  by_id : (P : Type 0) (x : ℕ) → (x ≡ id → P) → (x ≢ id → P) → P
  by_id P x same differ = by_test (nat_eq x id) refl
    where
      by_test : (b : Bool) → b ≡ nat_eq x id → P
      by_test true e = same (eqb-true x id (sym e))
      by_test false e = differ (eqb-false x id (sym e))

  mark_grows : is_marked s id ≡ false → Grows (λ x. x ≡ id) s grown
  mark_grows none = record {
    size = length-set s.marks id true;
    kept = λ x h. by_id (IsMarked grown x) x (λ e. subst (IsMarked grown) (sym e) mark_here) (λ differ.
        mark_there x differ ∙ h);
    fresh = λ x h. by_id (IsMarked s x ⊎ ((x ≡ id) × Contains grown.work x)) x
        (λ e. inr (e, subst (Contains grown.work) (sym e) (contains_first id s.work)))
        (λ differ. inl (sym (mark_there x differ) ∙ h));
    work = λ x h. contains_rest id s.work x h;
    back = λ x h. elim (contains_cases id s.work x h) [
      | inl e ↦ inr (subst (IsMarked grown) (sym e) mark_here)
      | inr k ↦ inl k
    ];
    steps = (let fewer = unmarked_set s.marks id below none in omega (arith, fewer));
  }

  pub marked_grows : Grows (λ x. x ≡ id) s (with_mark id s)
  marked_grows = by_test (is_marked s id) refl
    where
      by_test : (b : Bool) → b ≡ is_marked s id → Grows (λ x. x ≡ id) s (cond b s grown)
      by_test true e = grows_none (λ x. x ≡ id) s
      by_test false e = mark_grows (sym e)

  pub marked_here : IsMarked (with_mark id s) id
  marked_here = by_test (is_marked s id) refl
    where
      by_test : (b : Bool) → b ≡ is_marked s id → IsMarked (cond b s grown) id
      by_test true e = sym e
      by_test false e = mark_here

still_below :
    (s : State) (id : ℕ) (ids : List ℕ) → All (λ x. x < length s.marks) (id ∷ ids) →
    All (λ x. x < length (with_mark id s).marks) ids
still_below s id ids all = λ k d b.
    let grows = marked_grows s id (all_first (λ x. x < length s.marks) id ids all) in
    let low = all_rest (λ x. x < length s.marks) id ids all k d b in
    omega (arith, low, grows.size)

pub all_grow :
    (s : State) (ids : List ℕ) → All (λ x. x < length s.marks) ids →
    Grows (Contains ids) s (with_marks ids s)
all_grow s [] all = grows_none (Contains []) s
all_grow s (id ∷ ids) all =
    let first = marked_grows s id (all_first (λ x. x < length s.marks) id ids all) in
    let rest = all_grow (with_mark id s) ids (still_below s id ids all) in
    grows_both (Contains (id ∷ ids)) s (with_mark id s) (with_marks ids (with_mark id s))
    (grows_more (λ x. x ≡ id) (Contains (id ∷ ids)) s (with_mark id s) (λ x e.
    subst (Contains (id ∷ ids)) (sym e) (contains_first id ids)) first)
    (grows_more (Contains ids) (Contains (id ∷ ids)) (with_mark id s) (with_marks ids (with_mark id s))
    (λ x c. contains_rest id ids x c) rest)

pub all_here :
    (s : State) (ids : List ℕ) → All (λ x. x < length s.marks) ids → (x : ℕ) → Contains ids x →
    IsMarked (with_marks ids s) x
all_here s [] all x c = absurd (contains_none x c)
all_here s (id ∷ ids) all x c = elim (contains_cases id ids x c) [
  | inl e ↦ (let rest = all_grow (with_mark id s) ids (still_below s id ids all) in
      subst (IsMarked (with_marks ids (with_mark id s))) (sym e)
      (rest.kept id (marked_here s id (all_first (λ x. x < length s.marks) id ids all))))
  | inr k ↦ all_here (with_mark id s) ids (still_below s id ids all) x k
]

-- the marks are as many
pub marks_stay :
    (s : State) (ids : List ℕ) → length (with_marks ids s).marks ≡ length s.marks
marks_stay s [] = refl
marks_stay s (id ∷ ids) = marks_stay (with_mark id s) ids ∙ one (is_marked s id)
  where
    one : (b : Bool) → length (cond b s (record { marks = set s.marks id true; work = id ∷ s.work })).marks ≡
        length s.marks
    one true = refl
    one false = length-set s.marks id true
