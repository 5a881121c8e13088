-- Lemmas on tables whose types die.
use Rattle.std.proofs.Common.{◌≡◌, ℕ, zero, suc, ◌<◌, ◌≤◌, ◌-◌, List, [], ◌∷◌, length, map, take, refl, sym, ap, subst, ◌∙◌, arith, Some, None, Option, IsSome, Bool, true, false, cond, not, filter, nat_eq, set, eqb-true, get_or-set_same, get_or-set_other, Ok, Err, Result, IsOk, OnOk}
use Rattle.std.proofs.lemmas.{Bool.eqb-false, List.length-set}
use Rattle.std.specs.List.{slice_get, slice_index, IsDistinct, AllByRecursion}
use Rattle.walrus_arena.specs.Arena.{Slots, get, IsLive}
use Rattle.walrus_types.specs.declared.table.rec_group.RecGroup.{RecGroup}
use Rattle.walrus_ty.specs.Types.{ModuleType}
use Rattle.walrus_types.specs.{TypesById.TypesById, TypesById.known_id, TypesById.is_known_as, TypesById.Loses, Table.Table, Table.rec_group_at, Table.IsIdAt, Table.Deletes, Table.group_without, Steps.TableIndex.IsIndexed}
use Rattle.walrus_types.proofs.Tables.Places.{IsHome, live_below}
use Rattle.walrus_sections.proofs.Ordering.FilteredPlaces.{filter_at, filter_onto}
use Rattle.walrus_ty.proofs.Basics.{some_inj, false_from_not}

-- these ids died and left their groups, and the map lost entries at most
pub record Shrinks (gone : ℕ → Bool) (t new : Table) : Type 0 where
  pub count : length new.types.slots ≡ length t.types.slots
  pub slot : (i : ℕ) → get new.types.slots i ≡ cond (gone i) None (get t.types.slots i)
  pub from : (k u i : ℕ) → IsIdAt new.groups k u i → (v : ℕ) × IsIdAt t.groups k v i × (gone i ≡ false)
  pub to : (k v i : ℕ) → IsIdAt t.groups k v i → gone i ≡ false → (u : ℕ) × IsIdAt new.groups k u i
  pub once : (k u v i : ℕ) → IsIdAt new.groups k u i → IsIdAt new.groups k v i → u ≡ v
  pub mark : (k : ℕ) → (rec_group_at new.groups k).is_explicit ≡ (rec_group_at t.groups k).is_explicit
  pub few : (k : ℕ) → length (rec_group_at new.groups k).types ≤ length (rec_group_at t.groups k).types
  pub map : (q : ModuleType) (i : ℕ) → known_id new.types q ≡ Some i → known_id t.types q ≡ Some i

-- a slot that lives after the death lived before, and isn't gone
lived : {T : Type 0} (b : Bool) (o : Option T) → IsSome (cond b None o) → IsSome o × (b ≡ false)
lived true o h = let k : ⊥ = cc in absurd k
lived false o h = (h, refl)

module _ (gone : ℕ → Bool) (t new : Table) (go : List ℕ) (is : IsIndexed t go) (shrinks : Shrinks gone t new)
  where
    was_live : (i : ℕ) → IsLive new.types.slots i → IsLive t.types.slots i × (gone i ≡ false)
    was_live i live = lived (gone i) (get t.types.slots i) (subst IsSome (shrinks.slot i) live)

    stays_live : (i : ℕ) → IsLive t.types.slots i → gone i ≡ false → IsLive new.types.slots i
    stays_live i live here = subst IsSome (sym (shrinks.slot i
        ∙ ap (λ (b : Bool). cond b None (get t.types.slots i)) here)) live

    pub table_shrunk : IsIndexed new go
    table_shrunk = record {
      one_each = is.one_each ∙ sym shrinks.count;
      grouping = λ i live. (let was : _ = was_live i live in let p : _ = is.grouping i was.0 in
          shrinks.to (slice_index go i) p.0 i p.1 was.1);
      live = λ k u i h. (let m : _ = shrinks.from k u i h in stays_live i (is.live k m.0 i m.1) m.2);
      own = λ k u i h. (let m : _ = shrinks.from k u i h in is.own k m.0 i m.1);
      once = shrinks.once;
      single = λ k h. (let old : length (rec_group_at t.groups k).types ≤ 1 =
          is.single k (sym (shrinks.mark k) ∙ h) in omega (arith, old, shrinks.few k));
      known_implicit = λ q i h live. shrinks.mark (slice_index go i)
          ∙ is.known_implicit q i (shrinks.map q i h) (was_live i live).0;
      known_below = λ q i h. (let below : i < length t.types.slots = is.known_below q i (shrinks.map q i h) in
          omega (arith, below, shrinks.count));
    }

-- what stands in a filtered list
filter_once :
    (p : ℕ → Bool) (xs : List ℕ) →
    ((u v i : ℕ) → slice_get xs u ≡ Some i → slice_get xs v ≡ Some i → u ≡ v) → (u v i : ℕ) →
    slice_get (filter p xs) u ≡ Some i → slice_get (filter p xs) v ≡ Some i → u ≡ v
filter_once p [] once u v i h h' = cc
filter_once p (x ∷ xs) once u v i h h' = by_test (p x) u v h h'
    (filter_once p xs (λ u v i g g'. omega (arith, once (suc u) (suc v) i g g')))
  where
    by_test : (b : Bool) (u v : ℕ) → slice_get (cond b (x ∷ filter p xs) (filter p xs)) u ≡ Some i →
        slice_get (cond b (x ∷ filter p xs) (filter p xs)) v ≡ Some i →
        ((u v i : ℕ) → slice_get (filter p xs) u ≡ Some i → slice_get (filter p xs) v ≡ Some i → u ≡ v) →
        u ≡ v
    by_test true zero zero f f' rest = refl
    by_test true zero (suc v) f f' rest = let r : _ = filter_at p xs v i f' in
        absurd (omega (arith, once 0 (suc r.1) i f r.2))
    by_test true (suc u) zero f f' rest = let r : _ = filter_at p xs u i f in
        absurd (omega (arith, once 0 (suc r.1) i f' r.2))
    by_test true (suc u) (suc v) f f' rest = ap suc (rest u v i f f')
    by_test false u v f f' rest = rest u v i f f'

filter_few : (p : ℕ → Bool) (xs : List ℕ) → length (filter p xs) ≤ length xs
filter_few p [] = omega arith
filter_few p (x ∷ xs) = by_test (p x) (filter_few p xs)
  where
    by_test : (b : Bool) → length (filter p xs) ≤ length xs →
        length (cond b (x ∷ filter p xs) (filter p xs)) ≤ length (x ∷ xs)
    by_test true h = omega (arith, h)
    by_test false h = omega (arith, h)

-- the groups without an id, one by one
pub group_at_without :
    (gs : List RecGroup) (id k : ℕ) →
    rec_group_at (map (group_without id) gs) k ≡ group_without id (rec_group_at gs k)
group_at_without [] id k = refl
group_at_without (g ∷ gs) id zero = refl
group_at_without (g ∷ gs) id (suc k) = group_at_without gs id k

filter_all :
    (id : ℕ) (xs : List ℕ) → ((u : ℕ) → slice_get xs u ≡ Some id → ⊥) →
    filter (λ i. not (nat_eq i id)) xs ≡ xs
filter_all id [] none = refl
filter_all id (x ∷ xs) none = by_test (nat_eq x id) refl (filter_all id xs (λ u h. none (suc u) h))
  where
    by_test : (b : Bool) → b ≡ nat_eq x id → filter (λ i. not (nat_eq i id)) xs ≡ xs →
        cond (not b) (x ∷ filter (λ i. not (nat_eq i id)) xs) (filter (λ i. not (nat_eq i id)) xs) ≡ x ∷ xs
    by_test true e rest = absurd (none 0 (ap (λ (n : ℕ). Some n) (eqb-true x id (sym e))))
    by_test false e rest = ap (λ (t : List ℕ). x ∷ t) rest

group_kept :
    (id : ℕ) (g : RecGroup) → ((u : ℕ) → slice_get g.types u ≡ Some id → ⊥) → group_without id g ≡ g
group_kept id g none = let made : List ℕ → RecGroup = λ t.
    record g { types = t } in ap made (filter_all id g.types none)

groups_kept :
    (id : ℕ) (gs : List RecGroup) → ((l u : ℕ) → IsIdAt gs l u id → ⊥) →
    map (group_without id) gs ≡ gs
groups_kept id [] none = refl
groups_kept id (g ∷ gs) none = ap (λ (h : RecGroup). h ∷ map (group_without id) gs)
    (group_kept id g (λ u h. none 0 u h)) ∙ ap (λ (t : List RecGroup). g ∷ t)
    (groups_kept id gs (λ l u h. none (suc l) u h))

-- the last of distinct ids leaves them where it is taken off

last_differs :
    (x id y : ℕ) (xs : List ℕ) → AllByRecursion (λ z. nat_eq x z ≡ false) (y ∷ xs) →
    slice_get (y ∷ xs) (length xs) ≡ Some id → nat_eq x id ≡ false
last_differs x id y [] apart last = ap (nat_eq x) (sym (some_inj last)) ∙ apart.0
last_differs x id y (z ∷ xs) apart last = last_differs x id z xs apart.1 last

taken_off :
    (id x : ℕ) (xs : List ℕ) → IsDistinct nat_eq (x ∷ xs) →
    slice_get (x ∷ xs) (length xs) ≡ Some id →
    take (length xs) (x ∷ xs) ≡ filter (λ i. not (nat_eq i id)) (x ∷ xs)
unfolding IsDistinct
taken_off id x [] distinct last = by_test (nat_eq x id) refl
  where
    by_test : (b : Bool) → b ≡ nat_eq x id → [] ≡ cond (not b) (x ∷ []) []
    by_test true e = refl
    by_test false e = absurd (eqb-false x id (sym e) (some_inj last))
taken_off id x (y ∷ xs) distinct last =
    let kept : List ℕ = filter (λ i. not (nat_eq i id)) (y ∷ xs) in
    ap (λ (t : List ℕ). x ∷ t) (taken_off id y xs distinct.1 last)
    ∙ sym (ap (λ (b : Bool). cond (not b) (x ∷ kept) kept) (last_differs x id y xs distinct.0 last))

pub last_taken :
    (id : ℕ) (xs : List ℕ) → IsDistinct nat_eq xs → slice_get xs (length xs - 1) ≡ Some id →
    take (length xs - 1) xs ≡ filter (λ i. not (nat_eq i id)) xs
last_taken id [] distinct last = cc
last_taken id (x ∷ xs) distinct last =
    let e : length (x ∷ xs) - 1 ≡ length xs = omega arith in
    let at_end : slice_get (x ∷ xs) (length xs) ≡ Some id =
    subst (λ (n : ℕ). slice_get (x ∷ xs) n ≡ Some id) e last in
    ap (λ (n : ℕ). take n (x ∷ xs)) e ∙ taken_off id x xs distinct at_end

-- an id that stands in the group k alone leaves all groups where it leaves this one
pub left_one :
    (id : ℕ) (gs : List RecGroup) (k : ℕ) → ((l u : ℕ) → IsIdAt gs l u id → l ≡ k) →
    set gs k (group_without id (rec_group_at gs k)) ≡ map (group_without id) gs
left_one id [] k only = refl
left_one id (g ∷ gs) zero only = ap (λ (t : List RecGroup). group_without id g ∷ t)
    (sym (groups_kept id gs (λ l u h. let e : suc l ≡ 0 = only (suc l) u h in omega (arith, e))))
left_one id (g ∷ gs) (suc k) only =
    ap (λ (h : RecGroup). h ∷ set gs k (group_without id (rec_group_at gs k)))
    (sym (group_kept id g (λ u h. let e : 0 ≡ suc k = only 0 u h in omega (arith, e))))
    ∙ ap (λ (t : List RecGroup). group_without id g ∷ t)
    (left_one id gs k (λ l u h. let e : suc l ≡ suc k = only (suc l) u h in omega (arith, e)))

pub without_at :
    {T : Type 0} (s : Slots T) (id i : ℕ) → id < length s →
    get (set s id None) i ≡ cond (nat_eq i id) None (get s i)
without_at s id i below = by_test (nat_eq i id) refl
  where
    by_test : (b : Bool) → b ≡ nat_eq i id → get (set s id None) i ≡ cond b None (get s i)
    by_test true e = ap (get (set s id None)) (eqb-true i id (sym e)) ∙ get_or-set_same s id None None below
    by_test false e = get_or-set_other s id i None None (eqb-false i id (sym e))

pub kept_old : (b : Bool) (o : Option ℕ) (i : ℕ) → cond b None o ≡ Some i → o ≡ Some i
kept_old true o i h = cc
kept_old false o i h = h

module _ (t new : Table) (go : List ℕ) (id : ℕ) (is : IsIndexed t go) (live : IsLive t.types.slots id)
    (del : Deletes t new id) where
  groups_at : (k : ℕ) → rec_group_at new.groups k ≡ group_without id (rec_group_at t.groups k)
  groups_at k = ap (λ (gs : List RecGroup). rec_group_at gs k) del.groups ∙ group_at_without t.groups id k

  pub deleted : Shrinks (λ i. nat_eq i id) t new
  deleted =
      let member : (k u i : ℕ) → IsIdAt new.groups k u i →
      slice_get (filter (λ i. not (nat_eq i id)) (rec_group_at t.groups k).types) u ≡ Some i = λ k u i h.
      subst (λ (g : RecGroup). slice_get g.types u ≡ Some i) (groups_at k) h in
      record {
        count = ap length del.types.slots ∙ length-set t.types.slots id None;
        slot = λ i. ap (λ (s : Slots ModuleType). get s i) del.types.slots
            ∙ without_at t.types.slots id i (live_below t.types.slots id live);
        from = λ k u i h. (let f : _ = filter_at (λ i. not (nat_eq i id)) (rec_group_at t.groups k).types u
            i (member k u i h) in (f.1, f.2, false_from_not (nat_eq i id) f.0));
        to = λ k v i h here. (let f : _ = filter_onto (λ i. not (nat_eq i id)) (rec_group_at t.groups k).types v
            i h (ap not here) in (
              f.0,
              subst (λ (g : RecGroup). slice_get g.types f.0 ≡ Some i)
                  (sym (groups_at k)) f.1,
            ));
        once = λ k u v i h h'. filter_once (λ i. not (nat_eq i id)) (rec_group_at t.groups k).types (λ u v i.
            is.once k u v i) u v i (member k u i h) (member k v i h');
        mark = λ k. ap (λ (g : RecGroup). g.is_explicit) (groups_at k);
        few = λ k. omega (
          arith,
          ap (λ (g : RecGroup). length g.types) (groups_at k),
          filter_few (λ i. not (nat_eq i id)) (rec_group_at t.groups k).types,
        );
        map = λ q i h. kept_old (is_known_as t.types id q) (known_id t.types q) i (sym (del.types.map q) ∙ h);
      }

  pub table_deleted : IsIndexed new go
  table_deleted = table_shrunk (λ i. nat_eq i id) t new go is deleted

pub ok_holds : {X E P : Type 0} (r : Result X E) → IsOk r → OnOk r P → P
ok_holds (Ok x) i h = h
ok_holds (Err e) i h = let k : ⊥ = cc in absurd k

-- the table with these types, in which the group g at this place has these ids
abbrev pub replaced : Table → TypesById → ℕ → RecGroup → List ℕ → Table
replaced t types at g ids = record { types = types; groups = set t.groups at (record g { types = ids }) }

-- what the code's parts say of the table after a deletion
pub deletes_from : (t : Table) (id at : ℕ) (g : RecGroup) (types : TypesById) (ids : List ℕ) →
    IsHome t id at g → ids ≡ filter (λ i. not (nat_eq i id)) g.types → Loses t.types types id →
    Deletes t (replaced t types at g ids) id
deletes_from t id at g types ids home ids_is removes =
    let made : List ℕ → RecGroup = λ ns. record g { types = ns } in
    let one : made ids ≡ group_without id (rec_group_at t.groups at) = ap made ids_is
    ∙ ap (group_without id) (sym home.here) in
    record {
      types = removes;
      groups = ap (set t.groups at) one ∙ left_one id t.groups at home.only;
    }
