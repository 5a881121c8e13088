-- Which ids are in one group.
use Rattle.std.proofs.Common.{◌≡◌, ℕ, suc, Bool, true, false, cond, nat_eq, List, [], ◌∷◌, refl, sym, subst, arith, Some, None, Option, Contains}
use Rattle.std.specs.List.{slice_get, list_any}
use Rattle.walrus_types.specs.declared.table.rec_group.RecGroup.{RecGroup}
use Rattle.walrus_types.specs.TypesById.{IsLive}
use Rattle.walrus_types.specs.Table.{Table, IsTable, IsIdAt, rec_group_at, group_with}
use Rattle.walrus_types.proofs.Tables.Places.{any_has, group_of_member}
use Rattle.walrus_ty.proofs.Basics.{some_inj}
use Rattle.walrus_unused.proofs.UnusedTypes.Elements.{contains_from_get, get_from_contains}
use Rattle.walrus_unused.specs.NeededTypes.{AreInOneGroup}
use Rattle.walrus_unused.specs.Steps.Marking.{members_of}

-- where the group with an id is
pub group_stands :
    (gs : List RecGroup) (id : ℕ) (g : RecGroup) → group_with gs id ≡ Some g →
    (k : ℕ) × (u : ℕ) × (rec_group_at gs k ≡ g) × IsIdAt gs k u id
group_stands [] id g h = absurd (cc)
group_stands (first ∷ gs) id g h = by_test (list_any (nat_eq id) first.types) refl h (group_stands gs id g)
  where
    by_test : (b : Bool) → b ≡ list_any (nat_eq id) first.types →
        cond b (Some first) (group_with gs id) ≡ Some g →
        (group_with gs id ≡ Some g → (k : ℕ) × (u : ℕ) × (rec_group_at gs k ≡ g) × IsIdAt gs k u id) → (k : ℕ)
        × (u : ℕ) × (rec_group_at (first ∷ gs) k ≡ g) × IsIdAt (first ∷ gs) k u id
    by_test true e h rest = let m = any_has first.types id (sym e) in (0, m.0, some_inj h, m.1)
    by_test false e h rest = let r = rest h in (suc r.0, r.1, r.2, r.3)

abbrev pub members : Table → ℕ → List ℕ
members t id = members_of (group_with t.groups id)

-- the members of an id's group are in one group with it
pub mates_from : (t : Table) (id x : ℕ) → Contains (members t id) x → AreInOneGroup t id x
mates_from t id x c = by_group (group_with t.groups id) refl c
  where
    by_group : (o : Option RecGroup) → o ≡ group_with t.groups id → Contains (members_of o) x →
        AreInOneGroup t id x
    by_group None e c = let b = c.1 in absurd (omega (arith, b))
    by_group (Some g) e c =
        let at = group_stands t.groups id g (sym e) in
        let place = get_from_contains g.types x c in (
          at.0,
          at.1,
          place.0,
          at.3,
          subst (λ (h : RecGroup). slice_get h.types place.0 ≡ Some x) (sym at.2)
              place.1,
        )

pub mates_to : (t : Table) → IsTable t → (id x : ℕ) → AreInOneGroup t id x → Contains (members t id) x
mates_to t is id x (k, u, v, here, there) =
    let same : group_with t.groups id ≡ Some (rec_group_at t.groups k) =
    group_of_member t.groups id k u here (λ l w h. (is.once l w k u id h here).0) in
    subst (λ (o : Option RecGroup). Contains (members_of o) x) (sym same)
    (contains_from_get (rec_group_at t.groups k).types v x there)

pub mates_live : (t : Table) → IsTable t → (a b : ℕ) → AreInOneGroup t a b → IsLive t.types.slots b
mates_live t is a b (k, u, v, here, there) = is.live k v b there

pub own_mate : (t : Table) → IsTable t → (id : ℕ) → IsLive t.types.slots id → AreInOneGroup t id id
own_mate t is id live = let at = is.grouping id live in (at.0, at.1, at.1, at.2, at.2)

-- of three, where two pairs do
pub mates_both :
    (t : Table) → IsTable t → (a b c : ℕ) → AreInOneGroup t a b → AreInOneGroup t b c →
    AreInOneGroup t a c
mates_both t is a b c (k, u, v, here, there) (l, w, x, at, last) =
    let e : l ≡ k = (is.once l w k v b at there).0 in
    (k, u, x, here, subst (λ (n : ℕ). IsIdAt t.groups n x c) e last)

pub mates_own : (t : Table) (a b : ℕ) → AreInOneGroup t a b → AreInOneGroup t a a
mates_own t a b (k, u, v, here, there) = (k, u, u, here, here)
