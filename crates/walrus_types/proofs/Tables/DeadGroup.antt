-- Lemmas on tables that lose a whole group.
use Rattle.std.proofs.Common.{◌≡◌, ℕ, zero, suc, ◌<◌, ◌≤◌, List, [], ◌∷◌, length, map, refl, sym, ap, subst, ◌∙◌, arith, Some, None, Option, Bool, true, false, cond, nat_eq, set, All, ◌||◌, eqb-true}
use Rattle.std.specs.{Option.IsSomeAnd, List.slice_get, List.list_any, List.IsDistinct, List.AllByRecursion}
use Rattle.std.proofs.lemmas.{List.length-set, Option.slice_get-get_or}
use Rattle.walrus_arena.specs.Arena.{Slots, get, IsLive}
use Rattle.walrus_types.specs.declared.table.rec_group.RecGroup.{RecGroup}
use Rattle.walrus_ty.specs.Types.{ModuleType}
use Rattle.walrus_types.specs.{TypesById.TypesById, TypesById.known_id, TypesById.is_known_as, TypesById.LosesAll, Table.Table, Table.rec_group_at, Table.IsIdAt, Table.DeletesGroup, Table.group_ended, Steps.TableIndex.IsIndexed}
use Rattle.walrus_types.proofs.Tables.Places.{IsHome, live_below, none_some, has_any, any_has, group_answer}
use Rattle.walrus_types.proofs.Tables.DeadTypes.{replaced, table_shrunk, without_at, kept_old}

-- what the removal of these ids does to slots and map

removed_slot :
    (b c : Bool) (o : Option ModuleType) → cond c None (cond b None o) ≡ cond (b || c) None o
removed_slot true true o = refl
removed_slot true false o = refl
removed_slot false c o = refl

all_count :
    (old new : TypesById) (ids : List ℕ) → LosesAll old ids new →
    length new.slots ≡ length old.slots
all_count old new [] all = ap length all.slots
all_count old new (id ∷ ids) all = all_count all.0 new ids all.2
    ∙ (ap length all.1.slots ∙ length-set old.slots id None)

all_slot :
    (old new : TypesById) (ids : List ℕ) →
    ((u id : ℕ) → slice_get ids u ≡ Some id → id < length old.slots) → LosesAll old ids new →
    (i : ℕ) → get new.slots i ≡ cond (list_any (nat_eq i) ids) None (get old.slots i)
all_slot old new [] below all i = ap (λ (s : Slots ModuleType). get s i) all.slots
all_slot old new (id ∷ ids) below all i =
    let count : length all.0.slots ≡ length old.slots = ap length all.1.slots
    ∙ length-set old.slots id None in
    let first : get all.0.slots i ≡ cond (nat_eq i id) None (get old.slots i) =
    ap (λ (s : Slots ModuleType). get s i) all.1.slots ∙ without_at old.slots id i (below 0 id refl) in
    all_slot all.0 new ids (λ u j h. (let b : j < length old.slots = below (suc u) j h in
    omega (arith, b, count))) all.2 i
    ∙ ap (cond (list_any (nat_eq i) ids) None) first
    ∙ removed_slot (nat_eq i id) (list_any (nat_eq i) ids) (get old.slots i)

all_map :
    (old new : TypesById) (ids : List ℕ) → LosesAll old ids new → (q : ModuleType) (i : ℕ) →
    known_id new q ≡ Some i → known_id old q ≡ Some i
all_map old new [] all q i h = sym (all.map q) ∙ h
all_map old new (id ∷ ids) all q i h = kept_old (is_known_as old id q) (known_id old q) i (sym (all.1.map q)
    ∙ all_map all.0 new ids all.2 q i h)

-- the groups after the end of one

pub group_at_ended :
    (gs : List RecGroup) (id k : ℕ) →
    rec_group_at (map (group_ended id) gs) k ≡ group_ended id (rec_group_at gs k)
group_at_ended [] id k = refl
group_at_ended (g ∷ gs) id zero = refl
group_at_ended (g ∷ gs) id (suc k) = group_at_ended gs id k

made_empty : RecGroup → RecGroup
made_empty g = record g { types = [] }

ended_has :
    (id : ℕ) (g : RecGroup) (u : ℕ) → slice_get g.types u ≡ Some id →
    group_ended id g ≡ made_empty g
unfolding made_empty
ended_has id g u h = ap (λ (b : Bool). cond b (record g { types = [] }) g) (has_any g.types u id h)

ended_lacks :
    (id : ℕ) (g : RecGroup) → ((u : ℕ) → slice_get g.types u ≡ Some id → ⊥) → group_ended id g ≡ g
ended_lacks id g none = by_test (list_any (nat_eq id) g.types) refl
  where
    by_test : (b : Bool) → b ≡ list_any (nat_eq id) g.types → cond b (record g { types = [] }) g ≡ g
    by_test true e = (let m : _ = any_has g.types id (sym e) in absurd (none m.0 m.1))
    by_test false e = refl

groups_lack :
    (id : ℕ) (gs : List RecGroup) → ((l u : ℕ) → IsIdAt gs l u id → ⊥) →
    map (group_ended id) gs ≡ gs
groups_lack id [] none = refl
groups_lack id (g ∷ gs) none = ap (λ (h : RecGroup). h ∷ map (group_ended id) gs)
    (ended_lacks id g (λ u h. none 0 u h)) ∙ ap (λ (t : List RecGroup). g ∷ t)
    (groups_lack id gs (λ l u h. none (suc l) u h))

ended_one :
    (id : ℕ) (gs : List RecGroup) (k u : ℕ) → IsIdAt gs k u id →
    ((l v : ℕ) → IsIdAt gs l v id → l ≡ k) →
    set gs k (made_empty (rec_group_at gs k)) ≡ map (group_ended id) gs
ended_one id [] k u h only = refl
ended_one id (g ∷ gs) zero u h only = ap (λ (t : List RecGroup). made_empty g ∷ t)
    (sym (groups_lack id gs (λ l v m. let e : suc l ≡ 0 = only (suc l) v m in omega (arith, e))))
    ∙ ap (λ (e : RecGroup). e ∷ map (group_ended id) gs) (sym (ended_has id g u h))
ended_one id (g ∷ gs) (suc k) u h only =
    ap (λ (e : RecGroup). e ∷ set gs k (made_empty (rec_group_at gs k)))
    (sym (ended_lacks id g (λ v m. let e : 0 ≡ suc k = only 0 v m in omega (arith, e))))
    ∙ ap (λ (t : List RecGroup). group_ended id g ∷ t)
    (ended_one id gs k u h (λ l v m. let e : suc l ≡ suc k = only (suc l) v m in omega (arith, e)))

module _ (t : Table) (go : List ℕ) (id at : ℕ) (g : RecGroup) (is : IsIndexed t go) (home : IsHome t id at g)
  where
    in_home : (u i : ℕ) → slice_get g.types u ≡ Some i → IsIdAt t.groups at u i
    in_home u i h = subst (λ (r : RecGroup). slice_get r.types u ≡ Some i) (sym home.here) h

    from_home : (u i : ℕ) → IsIdAt t.groups at u i → slice_get g.types u ≡ Some i
    from_home u i h = subst (λ (r : RecGroup). slice_get r.types u ≡ Some i) home.here h

    pub members_live : (u i : ℕ) → slice_get g.types u ≡ Some i → IsLive t.types.slots i
    members_live u i h = is.live at u i (in_home u i h)

    pub all_live : All (IsLive t.types.slots) g.types
    all_live = λ k d below. members_live k _ (slice_get-get_or g.types k d below)

    pub members_once : (u v i : ℕ) → slice_get g.types u ≡ Some i → slice_get g.types v ≡ Some i → u ≡ v
    members_once u v i h h' = is.once at u v i (in_home u i h) (in_home v i h')

module _ (t : Table) (go : List ℕ) (id at : ℕ) (g : RecGroup) (types : TypesById) (is : IsIndexed t go)
    (home : IsHome t id at g) (removes : LosesAll t.types g.types types) where
  abbrev new : Table
  new = replaced t types at g []

  pub groups_are : new.groups ≡ map (group_ended id) t.groups
  unfolding made_empty
  groups_are =
      let one : record g { types = [] } ≡ made_empty (rec_group_at t.groups at) = ap made_empty (sym home.here) in
      ap (set t.groups at) one ∙ ended_one id t.groups at home.member.0 home.member.1 home.only

  pub group_deleted : DeletesGroup t new id
  group_deleted = record {
    types = subst (λ (o : Option RecGroup). IsSomeAnd o (λ r. LosesAll t.types r.types types))
        (group_answer t id at g home) removes;
    groups = groups_are;
  }

  groups_at : (k : ℕ) → rec_group_at new.groups k ≡ group_ended id (rec_group_at t.groups k)
  groups_at k = ap (λ (gs : List RecGroup). rec_group_at gs k) groups_are ∙ group_at_ended t.groups id k

  -- a member of a group afterwards was one before, of a group that lacks the id
  stayed : (k u i : ℕ) → IsIdAt new.groups k u i → IsIdAt t.groups k u i
      × (list_any (nat_eq id) (rec_group_at t.groups k).types ≡ false)
  stayed k u i h = by_test (list_any (nat_eq id) (rec_group_at t.groups k).types) refl
      (subst (λ (r : RecGroup). slice_get r.types u ≡ Some i) (groups_at k) h)
    where
      by_test : (b : Bool) → b ≡ list_any (nat_eq id) (rec_group_at t.groups k).types →
          slice_get (cond b (record (rec_group_at t.groups k) { types = [] })
          (rec_group_at t.groups k)).types u ≡ Some i → IsIdAt t.groups k u i
          × (list_any (nat_eq id) (rec_group_at t.groups k).types ≡ false)
      by_test true e f = absurd (none_some f)
      by_test false e f = (f, sym e)

  has_id : list_any (nat_eq id) (rec_group_at t.groups at).types ≡ true
  has_id = has_any (rec_group_at t.groups at).types home.member.0 id home.member.1

  not_gone : (k u i : ℕ) → IsIdAt t.groups k u i →
      list_any (nat_eq id) (rec_group_at t.groups k).types ≡ false → list_any (nat_eq i) g.types ≡ false
  not_gone k u i m lacks = by_test (list_any (nat_eq i) g.types) refl
    where
      by_test : (b : Bool) → b ≡ list_any (nat_eq i) g.types → b ≡ false
      by_test false e = refl
      by_test true e =
          let v : _ = any_has g.types i (sym e) in
          let same : k ≡ at = sym (is.own k u i m)
          ∙ is.own at v.0 i (in_home t go id at g is home v.0 i v.1) in
          let has : list_any (nat_eq id) (rec_group_at t.groups k).types ≡ true =
          subst (λ (n : ℕ). list_any (nat_eq id) (rec_group_at t.groups n).types ≡ true) (sym same) has_id
          in
          let c : ⊥ = cc in
          absurd c

  stays : (k v i : ℕ) → IsIdAt t.groups k v i → list_any (nat_eq i) g.types ≡ false → IsIdAt new.groups k v i
  stays k v i m here = subst (λ (r : RecGroup). slice_get r.types v ≡ Some i) (sym (groups_at k))
      (by_test (list_any (nat_eq id) (rec_group_at t.groups k).types) refl)
    where
      by_test : (b : Bool) → b ≡ list_any (nat_eq id) (rec_group_at t.groups k).types →
          slice_get (cond b (record (rec_group_at t.groups k) { types = [] })
          (rec_group_at t.groups k)).types v ≡ Some i
      by_test false e = m
      by_test true e =
          let w : _ = any_has (rec_group_at t.groups k).types id (sym e) in
          let same : k ≡ at = home.only k w.0 w.1 in
          let inside : slice_get g.types v ≡ Some i =
          from_home t go id at g is home v i (subst (λ (n : ℕ). IsIdAt t.groups n v i) same m) in
          let gone : list_any (nat_eq i) g.types ≡ true = has_any g.types v i inside in
          let c : ⊥ = cc in
          absurd c

  ended_mark : (r : RecGroup) (b : Bool) → (cond b (record r { types = [] }) r).is_explicit ≡ r.is_explicit
  ended_mark r true = refl
  ended_mark r false = refl

  ended_few : (r : RecGroup) (b : Bool) → length (cond b (record r { types = [] }) r).types ≤ length r.types
  ended_few r true = omega arith
  ended_few r false = omega arith

  pub table_ended : IsIndexed new go
  table_ended = table_shrunk (λ i. list_any (nat_eq i) g.types) t new go is (record {
    count = all_count t.types types g.types removes;
    slot = all_slot t.types types g.types (λ u i h.
        live_below t.types.slots i (members_live t go id at g is home u i h)) removes;
    from = λ k u i h. (let s : _ = stayed k u i h in (u, s.0, not_gone k u i s.0 s.1));
    to = λ k v i m here. (v, stays k v i m here);
    once = λ k u v i h h'. is.once k u v i (stayed k u i h).0 (stayed k v i h').0;
    mark = λ k. ap (λ (r : RecGroup). r.is_explicit) (groups_at k)
        ∙ ended_mark (rec_group_at t.groups k) (list_any (nat_eq id) (rec_group_at t.groups k).types);
    few = λ k. (let f : length (group_ended id (rec_group_at t.groups k)).types ≤ length
        (rec_group_at t.groups k).types = ended_few (rec_group_at t.groups k)
        (list_any (nat_eq id) (rec_group_at t.groups k).types) in
        omega (arith, f, ap (λ (r : RecGroup). length r.types) (groups_at k)));
    map = λ q i h. all_map t.types types g.types removes q i h;
  })

pub ended_indexed : (t : Table) (go : List ℕ) (id at : ℕ) (g : RecGroup) (types : TypesById)
    (ids left : List ℕ) → IsIndexed t go → IsHome t id at g → ids ≡ g.types → left ≡ [] →
    LosesAll t.types ids types → IsIndexed (replaced t types at g left) go
ended_indexed t go id at g types ids left is home ids_is left_is removes =
    subst (λ (ns : List ℕ). IsIndexed (replaced t types at g ns) go) (sym left_is)
    (table_ended t go id at g types is home (subst (λ (ns : List ℕ). LosesAll t.types ns types) ids_is
    removes))

pub ended_deletes : (t : Table) (go : List ℕ) (id at : ℕ) (g : RecGroup) (types : TypesById)
    (ids left : List ℕ) → IsIndexed t go → IsHome t id at g → ids ≡ g.types → left ≡ [] →
    LosesAll t.types ids types → DeletesGroup t (replaced t types at g left) id
ended_deletes t go id at g types ids left is home ids_is left_is removes =
    subst (λ (ns : List ℕ). DeletesGroup t (replaced t types at g ns) id) (sym left_is)
    (group_deleted t go id at g types is home
    (subst (λ (ns : List ℕ). LosesAll t.types ns types) ids_is removes))

-- a list whose places all differ is distinct

apart : (x : ℕ) (xs : List ℕ) → ((u : ℕ) → slice_get xs u ≡ Some x → ⊥) →
    AllByRecursion (λ y. nat_eq x y ≡ false) xs
apart x [] none = tt
apart x (y ∷ xs) none = (by_test (nat_eq x y) refl, apart x xs (λ u h. none (suc u) h))
  where
    by_test : (b : Bool) → b ≡ nat_eq x y → b ≡ false
    by_test false e = refl
    by_test true e = absurd (none 0 (ap (λ (n : ℕ). Some n) (sym (eqb-true x y (sym e)))))

pub distinct_from_once :
    (xs : List ℕ) → ((u v i : ℕ) → slice_get xs u ≡ Some i → slice_get xs v ≡ Some i → u ≡ v) →
    IsDistinct nat_eq xs
unfolding IsDistinct
distinct_from_once [] once = tt
distinct_from_once (x ∷ xs) once = (
  apart x xs (λ u h.
      (let e : suc u ≡ 0 = once (suc u) 0 x h refl in omega (arith, e))),
  distinct_from_once xs (λ u v i h h'. (let e : suc u ≡ suc v = once (suc u) (suc v) i h h' in
      omega (arith, e))),
)
