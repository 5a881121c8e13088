-- What reaching ids marks, and that it leads to what the roots need.
use Rattle.std.proofs.Common.{◌≡◌, ℕ, ◌<◌, ◌⊎◌, inl, inr, Bool, true, false, cond, List, [], ◌∷◌, ◌++◌, length, refl, sym, subst, arith, Some, None, Option, Contains, All, get_or}
use Rattle.std.proofs.lemmas.List.Elements.{All-contains, Contains-append_left, Contains-append_right, Contains-append_cases, Contains-get_or}
use Rattle.std.specs.Option.{IsSomeAnd}
use Rattle.walrus_ty.specs.Types.{ModuleType, type_definition, kind_composite}
use Rattle.walrus_ty.specs.Definition.{Names, composite_names, supertype_names}
use Rattle.walrus_types.specs.TypesById.{live_type, IsLive}
use Rattle.walrus_types.specs.Table.{Table}
use Rattle.walrus_unused.specs.NeededTypes.{IsNeeded, root, named, grouped, IsNamedBy, AreInOneGroup}
use Rattle.walrus_unused.specs.Steps.Marking.{State, is_marked, IsMarked, IsUnmarked, with_work, with_marks, with_group_marks, with_all_group_marks, ids_in, named_ids, Covers, MarksNeeded, steps_left}
use Rattle.walrus_unused.proofs.UnusedTypes.Elements.{contains_none, contains_first, contains_rest, contains_cases}
use Rattle.walrus_unused.proofs.UnusedTypes.Growing.{Grows, grows_none, grows_both, grows_more, all_grow, all_here}
use Rattle.walrus_unused.proofs.UnusedTypes.Groups.{members, mates_from, mates_to, mates_live, mates_both, mates_own, own_mate}

-- with a mark goes the whole group
abbrev pub IsWhole : Table → State → Type 0
IsWhole t s = (a b : ℕ) → AreInOneGroup t a b → IsMarked s a → IsMarked s b

-- some of these ids is in one group with it
abbrev pub IsMateOf : Table → List ℕ → ℕ → Type 0
IsMateOf t ids x = (id : ℕ) × Contains ids id × AreInOneGroup t id x

pub covers_grown :
    (t : Table) (P : ℕ → Type 0) (s new : State) → Covers t s → Grows P s new → Covers t new
covers_grown t P s new c g = record {
  grouping = c.grouping;
  size = λ id live. (let b = c.size id live in omega (arith, b, g.size));
}

pub members_below :
    (t : Table) (s : State) (id : ℕ) → Covers t s → All (λ x. x < length s.marks) (members t id)
members_below t s id c = λ k d b.
    c.size (get_or (members t id) k d) (mates_live t c.grouping id (get_or (members t id) k d)
    (mates_from t id (get_or (members t id) k d) (Contains-get_or (members t id) k d b)))

module _ (t : Table) (s : State) (id : ℕ) (c : Covers t s) where
  abbrev grown : State
  grown = with_marks (members t id) s

  group_grows : Grows (AreInOneGroup t id) s grown
  group_grows = grows_more (Contains (members t id)) (AreInOneGroup t id) s grown (mates_from t id)
      (all_grow s (members t id) (members_below t s id c))

  pub reached_grows : Grows (AreInOneGroup t id) s (with_group_marks t id s)
  reached_grows = by_test (is_marked s id)
    where
      by_test : (b : Bool) → Grows (AreInOneGroup t id) s (cond b s grown)
      by_test true = grows_none (AreInOneGroup t id) s
      by_test false = group_grows

  mate_marked : (x : ℕ) → AreInOneGroup t id x → IsMarked grown x
  mate_marked x m = all_here s (members t id) (members_below t s id c) x (mates_to t c.grouping id x m)

  pub reached_here : IsLive t.types.slots id → IsMarked (with_group_marks t id s) id
  reached_here live = by_test (is_marked s id) refl
    where
      by_test : (b : Bool) → b ≡ is_marked s id → IsMarked (cond b s grown) id
      by_test true e = sym e
      by_test false e = mate_marked id (own_mate t c.grouping id live)

  group_whole : IsWhole t s → IsWhole t grown
  group_whole whole a b m h = elim (group_grows.fresh a h) [
    | inl k ↦ group_grows.kept b (whole a b m k)
    | inr k ↦ mate_marked b (mates_both t c.grouping id a b k.0 m)
  ]

  pub reached_whole : IsWhole t s → IsWhole t (with_group_marks t id s)
  reached_whole whole = by_test (is_marked s id)
    where
      by_test : (b : Bool) → IsWhole t (cond b s grown)
      by_test true = whole
      by_test false = group_whole whole

pub all_reached_grow :
    (t : Table) (s : State) (ids : List ℕ) → Covers t s →
    Grows (IsMateOf t ids) s (with_all_group_marks t ids s)
all_reached_grow t s [] c = grows_none (IsMateOf t []) s
all_reached_grow t s (id ∷ ids) c =
    let first = reached_grows t s id c in
    let rest = all_reached_grow t (with_group_marks t id s) ids
    (covers_grown t (AreInOneGroup t id) s (with_group_marks t id s) c first) in
    grows_both (IsMateOf t (id ∷ ids)) s (with_group_marks t id s)
    (with_all_group_marks t ids (with_group_marks t id s))
    (grows_more (AreInOneGroup t id) (IsMateOf t (id ∷ ids)) s (with_group_marks t id s) (λ x m.
    (id, contains_first id ids, m)) first)
    (grows_more (IsMateOf t ids) (IsMateOf t (id ∷ ids)) (with_group_marks t id s)
    (with_all_group_marks t ids (with_group_marks t id s)) (λ x m.
    (m.0, contains_rest id ids m.0 m.1, m.2)) rest)

pub all_reached_here :
    (t : Table) (s : State) (ids : List ℕ) → Covers t s → (x : ℕ) → Contains ids x →
    IsLive t.types.slots x → IsMarked (with_all_group_marks t ids s) x
all_reached_here t s [] c x h live = absurd (contains_none x h)
all_reached_here t s (id ∷ ids) c x h live =
    let first = reached_grows t s id c in
    let covers = covers_grown t (AreInOneGroup t id) s (with_group_marks t id s) c first in
    elim (contains_cases id ids x h) [
      | inl e ↦
          let rest = all_reached_grow t (with_group_marks t id s) ids covers in
          rest.kept x (subst (IsMarked (with_group_marks t id s)) (sym e)
          (reached_here t s id c (subst (IsLive t.types.slots) e live)))
      | inr k ↦ all_reached_here t (with_group_marks t id s) ids covers x k live
    ]

pub all_reached_whole :
    (t : Table) (s : State) (ids : List ℕ) → Covers t s → IsWhole t s →
    IsWhole t (with_all_group_marks t ids s)
all_reached_whole t s [] c whole = whole
all_reached_whole t s (id ∷ ids) c whole =
    all_reached_whole t (with_group_marks t id s) ids
    (covers_grown t (AreInOneGroup t id) s (with_group_marks t id s) c (reached_grows t s id c))
    (reached_whole t s id c whole)

-- what a type names is what it is made with
named_listed :
    (ty : ModuleType) (id : ℕ) → Names (type_definition ty) id →
    Contains (supertype_names ty.supertype ++ composite_names (kind_composite ty.kind)) id
named_listed ty id n = elim (Contains-append_cases (composite_names (kind_composite ty.kind))
    (supertype_names ty.supertype) id n) [
      | inl k ↦ Contains-append_right (supertype_names ty.supertype)
          (composite_names (kind_composite ty.kind)) id
          k
      | inr k ↦ Contains-append_left (supertype_names ty.supertype) (composite_names (kind_composite ty.kind))
          id
          k
    ]

listed_named :
    (ty : ModuleType) (id : ℕ) →
    Contains (supertype_names ty.supertype ++ composite_names (kind_composite ty.kind)) id →
    Names (type_definition ty) id
listed_named ty id n = elim (Contains-append_cases (supertype_names ty.supertype)
    (composite_names (kind_composite ty.kind)) id n) [
      | inl k ↦ Contains-append_right (composite_names (kind_composite ty.kind))
          (supertype_names ty.supertype) id
          k
      | inr k ↦ Contains-append_left (composite_names (kind_composite ty.kind)) (supertype_names ty.supertype)
          id
          k
    ]

pub named_in : (t : Table) (user id : ℕ) → IsNamedBy t user id → Contains (named_ids t user) id
named_in t user id n = by_type (live_type t.types.slots user) n
  where
    by_type : (o : Option ModuleType) → IsSomeAnd o (λ ty. Names (type_definition ty) id) →
        Contains (ids_in o) id
    by_type None h = absurd h
    by_type (Some ty) h = named_listed ty id h

pub named_from : (t : Table) (user id : ℕ) → Contains (named_ids t user) id → IsNamedBy t user id
named_from t user id c = by_type (live_type t.types.slots user) c
  where
    by_type : (o : Option ModuleType) → Contains (ids_in o) id →
        IsSomeAnd o (λ ty. Names (type_definition ty) id)
    by_type None h = contains_none id h
    by_type (Some ty) h = listed_named ty id h

-- what is marked is needed; its names are marked, or are still to be followed
pub record IsMarking (t : Table) (roots : List ℕ) (s : State) : Type 0 where
  pub covers : Covers t s
  pub whole : IsWhole t s
  pub needed : (id : ℕ) → IsMarked s id → IsNeeded t roots id
  pub live : (id : ℕ) → IsMarked s id → IsLive t.types.slots id
  pub work : (id : ℕ) → Contains s.work id → IsMarked s id
  pub followed : (a b : ℕ) → IsMarked s a → IsNamedBy t a b → IsLive t.types.slots b →
      Contains s.work a ⊎ IsMarked s b
  pub begun : (id : ℕ) → Contains roots id → IsMarked s id

-- nothing is marked
no_mark : (b : Bool) → b ≡ false → b ≡ true → ⊥
no_mark b f h = cc

no_work : (s : State) (id : ℕ) → s.work ≡ [] → Contains s.work id → ⊥
no_work s id e c = contains_none id (subst (λ (xs : List ℕ). Contains xs id) e c)

pub marking_begins :
    (t : Table) (roots : List ℕ) (s : State) → All (IsLive t.types.slots) roots → Covers t s →
    IsUnmarked s → IsMarking t roots (with_all_group_marks t roots s)
marking_begins t roots s live c none =
    let grows = all_reached_grow t s roots c in
    let none_yet : (id : ℕ) → IsMarked s id → ⊥ = λ id h. no_mark (is_marked s id) (none.1 id) h in
    let new : (id : ℕ) → IsMarked (with_all_group_marks t roots s) id → IsMateOf t roots id
    × Contains (with_all_group_marks t roots s).work id = λ id h.
    elim (grows.fresh id h) [ inl k ↦ absurd (none_yet id k) | inr k ↦ k ] in
    record {
      covers = covers_grown t (IsMateOf t roots) s (with_all_group_marks t roots s) c grows;
      whole = all_reached_whole t s roots c (λ a b m h. absurd (none_yet a h));
      needed = λ id h. (let m = (new id h).0 in grouped m.0 id (root m.0 m.1) m.2);
      live = λ id h. (let m = (new id h).0 in mates_live t c.grouping m.0 id m.2);
      work = λ id h. elim (grows.back id h) [ inl k ↦ absurd (no_work s id none.0 k) | inr k ↦ k ];
      followed = λ a b h n l. inl (new a h).1;
      begun = λ id h. all_reached_here t s roots c id h (All-contains (IsLive t.types.slots) roots id live h);
    }

-- the next of the work
pub next_live :
    (t : Table) (roots : List ℕ) (s : State) (id : ℕ) → IsMarking t roots (with_work id s) →
    IsLive t.types.slots id
next_live t roots s id m = m.live id (m.work id (contains_first id s.work))

pub next_covers :
    (t : Table) (roots : List ℕ) (s : State) (id : ℕ) → IsMarking t roots (with_work id s) →
    Covers t s
next_covers t roots s id m = record { grouping = m.covers.grouping; size = m.covers.size }

pub marking_goes_on :
    (t : Table) (roots : List ℕ) (s : State) (id : ℕ) → IsMarking t roots (with_work id s) →
    IsMarking t roots (with_all_group_marks t (named_ids t id) s)
marking_goes_on t roots s id m =
    let c = next_covers t roots s id m in
    let ids = named_ids t id in
    let new = with_all_group_marks t (named_ids t id) s in
    let grows = all_reached_grow t s (named_ids t id) c in
    let here : IsMarked s id = m.work id (contains_first id s.work) in
    let is_needed : (x : ℕ) → IsMateOf t (named_ids t id) x → IsNeeded t roots x = λ x k.
    grouped k.0 x (named id k.0 (m.needed id here) (named_from t id k.0 k.1)
    (mates_live t c.grouping k.0 k.0 (mates_own t k.0 x k.2))) k.2 in
    record {
      covers = covers_grown t (IsMateOf t (named_ids t id)) s new c grows;
      whole = all_reached_whole t s (named_ids t id) c m.whole;
      needed = λ x h. elim (grows.fresh x h) [ inl k ↦ m.needed x k | inr k ↦ is_needed x k.0 ];
      live = λ x h. elim (grows.fresh x h) [
        | inl k ↦ m.live x k
        | inr k ↦
            mates_live t c.grouping k.0.0 x k.0.2
      ];
      work = λ x h. elim (grows.back x h) [
        | inl k ↦ grows.kept x (m.work x (contains_rest id s.work x k))
        | inr k ↦ k
      ];
      followed = λ a b h n l. elim (grows.fresh a h) [
        | inl k ↦ elim (m.followed a b k n l) [
          | inl w ↦ elim (contains_cases id s.work a w) [
            | inl e ↦ inr (all_reached_here t s (named_ids t id) c b (named_in
                t id b (subst (λ (u : ℕ). IsNamedBy t u b) e n)) l)
            | inr later ↦ inl (grows.work a later)
          ]
          | inr w ↦ inr (grows.kept b w)
        ]
        | inr k ↦ inl k.1
      ];
      begun = λ x h. grows.kept x (m.begun x h);
    }

pub marking_shrinks :
    (t : Table) (roots : List ℕ) (s : State) (id : ℕ) → IsMarking t roots (with_work id s) →
    steps_left (with_all_group_marks t (named_ids t id) s) < steps_left (with_work id s)
marking_shrinks t roots s id m =
    let grows = all_reached_grow t s (named_ids t id) (next_covers t roots s id m) in
    omega (arith, grows.steps)

-- at the end of all work just what is needed is marked
all_marked_needed :
    (t : Table) (roots : List ℕ) (s : State) → IsMarking t roots s → s.work ≡ [] → (id : ℕ) →
    IsNeeded t roots id → IsMarked s id
all_marked_needed t roots s m e id (root x h) = m.begun x h
all_marked_needed t roots s m e id (named user x u n l) =
    elim (m.followed user x (all_marked_needed t roots s m e user u) n l) [
      | inl w ↦ absurd (no_work s user e w)
      | inr k ↦ k
    ]
all_marked_needed t roots s m e id (grouped mate x k g) =
    m.whole mate x g (all_marked_needed t roots s m e mate k)

pub marking_ends :
    (t : Table) (roots : List ℕ) (s : State) → IsMarking t roots s → s.work ≡ [] →
    MarksNeeded t roots s
marking_ends t roots s m e id = (m.needed id, all_marked_needed t roots s m e id)
