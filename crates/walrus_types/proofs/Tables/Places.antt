-- Lemmas on tables: what stands where, and how a table grows.
use Rattle.std.proofs.Common.{◌≡◌, ℕ, zero, suc, ◌+◌, ◌-◌, ◌<◌, ◌≤◌, List, [], ◌∷◌, ◌++◌, length, map, get_or, refl, sym, ap, subst, ◌∙◌, arith, Some, None, IsSome, Bool, true, false, cond, nat_eq, eqb-true, ◌⊎◌, inl, inr}
use Rattle.std.specs.List.{slice_get, slice_index, list_any, range_with_len}
use Rattle.std.proofs.lemmas.{List.length_push, List.get_or_append_left, List.get_or-append_right, List.get_or_past, List.get_or_at, List.get_or_default, List.length-map, Option.slice_get_within, Option.slice_get-get_or, Option.get_or_from_slice_get, List.Folds.Any-from_list_any, List.Folds.list_any_at, List.FromFn.length-range_with_len, List.FromFn.get_or-range_with_len, Bool.cases_lt, Bool.Decides.nat_tests}
use Rattle.std.proofs.Common.{length-append}
use Rattle.walrus_arena.specs.Arena.{Slots, get, IsLive}
use Rattle.walrus_types.specs.declared.table.rec_group.RecGroup.{RecGroup}
use Rattle.walrus_ty.specs.Types.{ModuleType}
use Rattle.walrus_types.specs.{TypesById.known_id, Steps.TableIndex.IsIndexed}
use Rattle.walrus_types.specs.Table.{Table, rec_group_at, no_rec_group, group_with, IsIdAt, IsTable, IsSameTable}
use Rattle.walrus_ty.proofs.Basics.{some_inj}

pub none_some : {A : Type 0} {x : A} → None ≡ Some x → ⊥
none_some h = cc

-- the place of a live slot
pub live_below : {T : Type 0} (s : Slots T) (id : ℕ) → IsLive s id → id < length s
live_below s id live = elim (cases_lt id (length s)) [
  | inl w ↦ w
  | inr w ↦
      (let e : get s id ≡ None = get_or_past s id None w in let h : false ≡ true = subst IsSome e live in
      let k : ⊥ = cc in absurd k)
]

-- a group with a member is in the list
pub member_below : (gs : List RecGroup) (k u id : ℕ) → IsIdAt gs k u id → k < length gs
member_below gs k u id m = elim (cases_lt k (length gs)) [
  | inl w ↦ w
  | inr w ↦ (let e : rec_group_at gs k ≡ no_rec_group = get_or_past gs k no_rec_group w in
      let h : slice_get [] u ≡ Some id = subst (λ (g : RecGroup). slice_get g.types u ≡ Some id) e m in
      absurd (omega (arith, slice_get_within [] u id h)))
]

pub group-left :
    (gs : List RecGroup) (g : RecGroup) (k : ℕ) → k < length gs →
    rec_group_at (gs ++ g ∷ []) k ≡ rec_group_at gs k
group-left gs g k below = get_or_append_left gs (g ∷ []) no_rec_group k below

pub group-end : (gs : List RecGroup) (g : RecGroup) → rec_group_at (gs ++ g ∷ []) (length gs) ≡ g
group-end gs g = get_or_at gs g [] no_rec_group (length gs) refl

-- a member of the groups with one more group
pub member_push :
    (gs : List RecGroup) (g : RecGroup) (k u i : ℕ) → IsIdAt (gs ++ g ∷ []) k u i →
    IsIdAt gs k u i ⊎ ((k ≡ length gs) × (slice_get g.types u ≡ Some i))
member_push gs g k u i m = elim (cases_lt k (length gs)) [
  | inl w ↦ inl (subst (λ (h : RecGroup). slice_get h.types u ≡ Some i) (group-left gs g k w) m)
  | inr w ↦
      let below : k < length (gs ++ g ∷ []) = member_below (gs ++ g ∷ []) k u i m in
      let e : k ≡ length gs = omega (arith, w, below, length_push gs g) in
      inr (
        e,
        subst (λ (h : RecGroup). slice_get h.types u ≡ Some i) (ap (rec_group_at (gs ++ g ∷ [])) e
            ∙ group-end gs g) m,
      )
]

pub member_kept :
    (gs : List RecGroup) (g : RecGroup) (k u i : ℕ) → IsIdAt gs k u i → IsIdAt (gs ++ g ∷ []) k u i
member_kept gs g k u i m = subst (λ (h : RecGroup). slice_get h.types u ≡ Some i)
    (sym (group-left gs g k (member_below gs k u i m))) m

pub member_last :
    (gs : List RecGroup) (g : RecGroup) (u i : ℕ) → slice_get g.types u ≡ Some i →
    IsIdAt (gs ++ g ∷ []) (length gs) u i
member_last gs g u i h = subst (λ (h : RecGroup). slice_get h.types u ≡ Some i) (sym (group-end gs g)) h

-- what stands where in a range
pub range_get :
    (first count u : ℕ) → u < count → slice_get (range_with_len first count) u ≡ Some (first + u)
range_get first count u h = slice_get-get_or (range_with_len first count) u 0 (omega (
  arith,
  h,
  length-range_with_len first count,
)) ∙ ap (λ (n : ℕ). Some n) (get_or-range_with_len first count u 0 h)

pub range_member :
    (first count u i : ℕ) → slice_get (range_with_len first count) u ≡ Some i →
    (u < count) × (i ≡ first + u)
range_member first count u i h =
    let within : u < count = omega (
      arith,
      slice_get_within (range_with_len first count) u i h,
      length-range_with_len first count,
    ) in
    (within, some_inj (sym h ∙ range_get first count u within))

-- slots with more live ones behind them
some_at : {T : Type 0} (tys : List T) (j : ℕ) → j < length tys → IsSome (get (map Some tys) j)
some_at [] j h = absurd (omega (arith, h))
some_at (t ∷ tys) zero h = refl
some_at (t ∷ tys) (suc j) h = some_at tys j (omega (arith, h))

pub live_kept :
    {T : Type 0} (s : Slots T) (tys : List T) (id : ℕ) → IsLive s id → IsLive (s ++ map Some tys) id
live_kept s tys id live =
    subst IsSome (sym (get_or_append_left s (map Some tys) None id (live_below s id live))) live

pub live_new :
    {T : Type 0} (s : Slots T) (tys : List T) (id : ℕ) → length s ≤ id →
    id < length s + length tys → IsLive (s ++ map Some tys) id
live_new s tys id low high = subst IsSome (sym
    (get_or-append_right s (map Some tys) (length s) id None refl low))
    (some_at tys (id - length s) (omega (arith, low, high)))

pub many_grown :
    {T : Type 0} (s : Slots T) (tys : List T) → length (s ++ map Some tys) ≡ length s + length tys
many_grown s tys = length-append s (map Some tys) ∙ ap (λ n. length s + n) (length-map tys Some)

pub live_grown :
    {T : Type 0} (s : Slots T) (tys : List T) (id : ℕ) → IsLive (s ++ map Some tys) id →
    IsLive s id ⊎ ((length s ≤ id) × (id < length s + length tys))
live_grown s tys id live = elim (cases_lt id (length s)) [
  | inl w ↦ inl (subst IsSome (get_or_append_left s (map Some tys) None id w) live)
  | inr w ↦ (let below : id < length (s ++ map Some tys) = live_below (s ++ map Some tys) id live in
      inr (w, omega (arith, below, many_grown s tys)))
]

-- one group of new types comes to the end of a table
pub record Grows (t new : Table) (tys : List ModuleType) (g : RecGroup) : Type 0 where
  pub slots : new.types.slots ≡ t.types.slots ++ map Some tys
  pub groups : new.groups ≡ t.groups ++ g ∷ []
  pub members : g.types ≡ range_with_len (length t.types.slots) (length tys)
  pub single : g.is_explicit ≡ false → length tys ≤ 1
  pub map : (q : ModuleType) (id : ℕ) → known_id new.types q ≡ Some id → (known_id t.types q ≡ Some id)
      ⊎ ((g.is_explicit ≡ false) × (length t.types.slots ≤ id) × (id < length t.types.slots + length tys))

-- the numbers of the groups, with as many more as there are new types
pub record Extends (go new : List ℕ) (count m : ℕ) : Type 0 where
  pub many : length new ≡ length go + count
  pub old : (i : ℕ) → i < length go → slice_index new i ≡ slice_index go i
  pub last : (i : ℕ) → length go ≤ i → i < length go + count → slice_index new i ≡ m

module _ (t new : Table) (go go' : List ℕ) (tys : List ModuleType) (g : RecGroup) (is : IsIndexed t go)
    (grows : Grows t new tys g) (extends : Extends go go' (length tys) (length t.groups)) where
  abbrev slots : Slots ModuleType
  slots = t.types.slots

  abbrev grown : Slots ModuleType
  grown = t.types.slots ++ map Some tys

  abbrev groups : List RecGroup
  groups = t.groups ++ g ∷ []

  many_slots : length grown ≡ length slots + length tys
  many_slots = many_grown slots tys

  kept_home : (i : ℕ) → i < length slots → slice_index go' i ≡ slice_index go i
  kept_home i below = extends.old i (omega (arith, below, is.one_each))

  new_home : (i : ℕ) → length slots ≤ i → i < length slots + length tys → slice_index go' i ≡ length t.groups
  new_home i low high = extends.last i (omega (arith, low, is.one_each)) (omega (arith, high, is.one_each))

  new_place : (u i : ℕ) → slice_get g.types u ≡ Some i → (u < length tys) × (i ≡ length slots + u)
  new_place u i h = range_member (length slots) (length tys) u i
      (subst (λ (ids : List ℕ). slice_get ids u ≡ Some i) grows.members h)

  place_new : (i : ℕ) → length slots ≤ i → i < length slots + length tys →
      slice_get g.types (i - length slots) ≡ Some i
  place_new i low high =
      let e : length slots + (i - length slots) ≡ i = omega (arith, low) in
      subst (λ (ids : List ℕ). slice_get ids (i - length slots) ≡ Some i) (sym grows.members)
      (range_get (length slots) (length tys) (i - length slots) (omega (arith, low, high))
      ∙ ap (λ (n : ℕ). Some n) e)

  few_types : g.is_explicit ≡ false → length g.types ≤ 1
  few_types h = (let few : length tys ≤ 1 = grows.single h in
      omega (arith, few, ap length grows.members, length-range_with_len (length slots) (length tys)))

  abbrev AtMostOne : RecGroup → Type 0
  AtMostOne h = h.is_explicit ≡ false → length h.types ≤ 1

  no_group_few : AtMostOne no_rec_group
  no_group_few h = let c : ⊥ = cc in absurd c

  single_at : (k : ℕ) → AtMostOne (rec_group_at groups k)
  single_at k = elim (cases_lt k (length t.groups)) [
    | inl w ↦ subst AtMostOne (sym (group-left t.groups g k w)) (is.single k)
    | inr w ↦ elim (cases_lt (length t.groups) k) [
      | inl v ↦ subst AtMostOne (sym (get_or_past groups k no_rec_group
          (omega (arith, v, length_push t.groups g)))) no_group_few
      | inr v ↦ (let e : k ≡ length t.groups = omega (arith, w, v) in
          subst AtMostOne (sym (ap (rec_group_at groups) e ∙ group-end t.groups g)) few_types)
    ]
  ]

  was_live : (i : ℕ) → i < length slots → IsLive grown i → IsLive slots i
  was_live i below live = subst IsSome (get_or_append_left slots (map Some tys) None i below) live

  pub table_grown : IsIndexed new go'
  table_grown = rw (grows.slots, grows.groups) (record {
    one_each = omega (arith, extends.many, is.one_each, many_slots);
    grouping = λ i live. elim (live_grown slots tys i live) [
      | inl old ↦ (let p : _ = is.grouping i old in (
        p.0,
        subst (λ (k : ℕ). IsIdAt groups k p.0 i) (sym (kept_home i (live_below slots i old)))
            (member_kept t.groups g (slice_index go i) p.0 i p.1),
      ))
      | inr e ↦ (
        i - length slots,
        subst (λ (k : ℕ). IsIdAt groups k (i - length slots) i)
            (sym (new_home i e.0 e.1)) (member_last t.groups g (i - length slots) i (place_new i e.0 e.1)),
      )
    ];
    live = λ k u i h. elim (member_push t.groups g k u i h) [
      | inl old ↦ live_kept slots tys i (is.live k u i old)
      | inr e ↦ (let at : _ = new_place u i e.1 in
          live_new slots tys i (omega (arith, at.1)) (omega (arith, at.1, at.0)))
    ];
    own = λ k u i h. elim (member_push t.groups g k u i h) [
      | inl old ↦ (kept_home i (live_below slots i (is.live k u i old)) ∙ is.own k u i old)
      | inr e ↦ (let at : _ = new_place u i e.1 in
          new_home i (omega (arith, at.1)) (omega (arith, at.1, at.0)) ∙ sym e.0)
    ];
    once = λ k u v i h h'. elim (member_push t.groups g k u i h) [
      | inl old ↦ elim (member_push t.groups g k v i h') [
        | inl old' ↦ is.once k u v i old old'
        | inr e ↦
            (let b : k < length t.groups = member_below t.groups k u i old in absurd (omega (arith, b, e.0)))
      ]
      | inr e ↦ elim (member_push t.groups g k v i h') [
        | inl old' ↦
            (let b : k < length t.groups = member_below t.groups k v i old' in absurd (omega (arith, b, e.0)))
        | inr e' ↦ (let a : _ = new_place u i e.1 in let b : _ = new_place v i e'.1 in
            omega (arith, a.1, b.1))
      ]
    ];
    single = λ k. single_at k;
    known_implicit = λ q i h live. elim (grows.map q i h) [
      | inl was ↦
          let below : i < length slots = is.known_below q i was in
          let old : IsLive slots i = was_live i below live in
          let p : _ = is.grouping i old in
          subst (λ (k : ℕ). (rec_group_at groups k).is_explicit ≡ false) (sym (kept_home i below))
          (ap (λ (g : RecGroup). g.is_explicit) (group-left t.groups g (slice_index go i)
          (member_below t.groups (slice_index go i) p.0 i p.1)) ∙ is.known_implicit q i was old)
      | inr e ↦ subst (λ (k : ℕ). (rec_group_at groups k).is_explicit ≡ false) (sym (new_home i e.1 e.2))
          (ap (λ (g : RecGroup). g.is_explicit) (group-end t.groups g) ∙ e.0)
    ];
    known_below = λ q i h. elim (grows.map q i h) [
      | inl was ↦ (let below : i < length slots = is.known_below q i was in omega (arith, below, many_slots))
      | inr e ↦ omega (arith, e.2, many_slots)
    ];
  })

-- a table with the same look-ups
pub indexed_same :
    (t new : Table) (go : List ℕ) → IsIndexed t go → IsSameTable t new → IsIndexed new go
indexed_same t new go is same = rw (same.types.slots, same.groups) (record {
  one_each = is.one_each;
  grouping = is.grouping;
  live = is.live;
  own = is.own;
  once = is.once;
  single = is.single;
  known_implicit = λ q id h. is.known_implicit q id (sym (same.types.map q) ∙ h);
  known_below = λ q id h. is.known_below q id (sym (same.types.map q) ∙ h);
})

-- the public part
pub is_table : (t : Table) (go : List ℕ) → IsIndexed t go → IsTable t
is_table t go is = record {
  grouping = λ id live. (let p : _ = is.grouping id live in (slice_index go id, p.0, p.1));
  live = is.live;
  once = λ k u l v id h h'. (let e : k ≡ l = sym (is.own k u id h) ∙ is.own l v id h' in
      (e, is.once l u v id (subst (λ (n : ℕ). IsIdAt t.groups n u id) e h) h'));
  single = is.single;
  known_implicit = λ q id k u h m. subst (λ (n : ℕ). (rec_group_at t.groups n).is_explicit ≡ false)
      (is.own k u id m) (is.known_implicit q id h (is.live k u id m));
}

-- which group has an id

eqb_same : (a b : ℕ) → a ≡ b → nat_eq a b ≡ true
eqb_same a b e = grind (arith, nat_tests, e)

pub has_any : (xs : List ℕ) (u id : ℕ) → slice_get xs u ≡ Some id → list_any (nat_eq id) xs ≡ true
has_any xs u id h = list_any_at (nat_eq id) xs u id (slice_get_within xs u id h)
    (eqb_same id (get_or xs u id) (sym (get_or_from_slice_get xs u id id h)))

pub any_has :
    (xs : List ℕ) (id : ℕ) → list_any (nat_eq id) xs ≡ true → (u : ℕ) × slice_get xs u ≡ Some id
any_has xs id h =
    let a = Any-from_list_any (nat_eq id) xs h in
    (a.0, slice_get-get_or xs a.0 a.1 a.2 ∙ ap (λ (n : ℕ). Some n) (a.3 ∙ sym (eqb-true id a.1 a.4)))

pub group_of_member :
    (gs : List RecGroup) (id k u : ℕ) → IsIdAt gs k u id → ((l v : ℕ) → IsIdAt gs l v id → l ≡ k) →
    group_with gs id ≡ Some (rec_group_at gs k)
group_of_member [] id k u h only = (let w : 0 < 0 =
    (let b : k < 0 = member_below [] k u id h in omega (arith, b)) in absurd (omega (arith, w)))
group_of_member (g ∷ gs) id zero u h only = ap (λ (b : Bool). cond b (Some g) (group_with gs id))
    (has_any g.types u id h)
group_of_member (g ∷ gs) id (suc k) u h only =
    by_test (list_any (nat_eq id) g.types) refl
    (group_of_member gs id k u h (λ l v m. (let e : suc l ≡ suc k = only (suc l) v m in omega (arith, e))))
  where
    by_test : (b : Bool) → b ≡ list_any (nat_eq id) g.types → group_with gs id ≡ Some (rec_group_at gs k) →
        cond b (Some g) (group_with gs id) ≡ Some (rec_group_at gs k)
    by_test true e rest = (let m : _ = any_has g.types id (sym e) in let z : 0 ≡ suc k = only 0 m.0 m.1 in
        absurd (omega (arith, z)))
    by_test false e rest = rest

pub group_of_none :
    (gs : List RecGroup) (id : ℕ) → ((l v : ℕ) → IsIdAt gs l v id → ⊥) → group_with gs id ≡ None
group_of_none [] id none = refl
group_of_none (g ∷ gs) id none = by_test (list_any (nat_eq id) g.types) refl
    (group_of_none gs id (λ l v m. none (suc l) v m))
  where
    by_test : (b : Bool) → b ≡ list_any (nat_eq id) g.types → group_with gs id ≡ None →
        cond b (Some g) (group_with gs id) ≡ None
    by_test true e rest = (let m : _ = any_has g.types id (sym e) in absurd (none 0 m.0 m.1))
    by_test false e rest = rest

-- where the code's look-ups of a live id lead
pub record IsHome (t : Table) (id at : ℕ) (g : RecGroup) : Type 0 where
  pub live : IsLive t.types.slots id
  pub inside : at < length t.groups
  pub here : rec_group_at t.groups at ≡ g
  pub member : (u : ℕ) × IsIdAt t.groups at u id
  pub only : (l v : ℕ) → IsIdAt t.groups l v id → l ≡ at

pub home_of :
    (t : Table) (go : List ℕ) (id at : ℕ) (g : RecGroup) → IsIndexed t go →
    IsLive t.types.slots id → at ≡ get_or go id at → g ≡ get_or t.groups at g → IsHome t id at g
home_of t go id at g is live at_is g_is =
    let below : id < length go = (let b : id < length t.types.slots = live_below t.types.slots id live in
    omega (arith, b, is.one_each)) in
    let home : slice_index go id ≡ at = sym (at_is ∙ get_or_default go id at 0 below) in
    let p : _ = is.grouping id live in
    let inside : slice_index go id < length t.groups = member_below t.groups (slice_index go id) p.0 id p.1 in
    record {
      live = live;
      inside = subst (λ (k : ℕ). k < length t.groups) home inside;
      here = get_or_default t.groups at no_rec_group g (omega (arith, inside, home)) ∙ sym g_is;
      member = (p.0, subst (λ (k : ℕ). IsIdAt t.groups k p.0 id) home p.1);
      only = λ l v h. sym (is.own l v id h) ∙ home;
    }

pub group_answer :
    (t : Table) (id at : ℕ) (g : RecGroup) → IsHome t id at g → Some g ≡ group_with t.groups id
group_answer t id at g home = ap (λ (h : RecGroup). Some h) (sym home.here)
    ∙ sym (group_of_member t.groups id at home.member.0 home.member.1 home.only)

pub group_absent :
    (t : Table) (go : List ℕ) (id : ℕ) → IsIndexed t go → (IsLive t.types.slots id → ⊥) →
    None ≡ group_with t.groups id
group_absent t go id is dead = sym (group_of_none t.groups id (λ l v h. dead (is.live l v id h)))
