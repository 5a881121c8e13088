-- The steps of the loops that mark types.
use Rattle.std.proofs.Common.{◌≡◌, ℕ, ◌<◌, List, length, take, sym, ap, subst, arith, All, Some, Option, get_or}
use Rattle.walrus_types.specs.declared.table.rec_group.RecGroup.{RecGroup}
use Rattle.walrus_types.specs.Table.{Table, group_with}
use Rattle.walrus_unused.specs.Steps.Marking.{State, with_marks, with_all_group_marks, members_of, Covers}
use Rattle.walrus_unused.proofs.UnusedTypes.Growing.{marks_stay}
use Rattle.walrus_unused.proofs.UnusedTypes.Reaching.{IsMateOf, covers_grown, all_reached_grow, members_below}

pub next_below :
    (s self : State) (ids : List ℕ) (k x : ℕ) → self ≡ with_marks (take k ids) s →
    All (λ id. id < length s.marks) ids → k < length ids → x ≡ get_or ids k x →
    x < length self.marks
next_below s self ids k x is all below read =
    let stay = marks_stay s (take k ids) in
    let size = ap (λ (s : State). length s.marks) is in
    let low = all k x below in
    omega (arith, stay, size, low, read)

pub next_covered :
    (t : Table) (s self : State) (ids : List ℕ) (k : ℕ) → self ≡ with_all_group_marks t (take k ids) s →
    Covers t s → Covers t self
next_covered t s self ids k is c =
    subst (Covers t) (sym is) (covers_grown t (IsMateOf t (take k ids)) s
    (with_all_group_marks t (take k ids) s) c (all_reached_grow t s (take k ids) c))

pub group_below :
    (t : Table) (s : State) (id : ℕ) (g : RecGroup) (xs : List ℕ) → Covers t s →
    Some g ≡ group_with t.groups id → xs ≡ g.types → All (λ x. x < length s.marks) xs
group_below t s id g xs c is same =
    let all = members_below t s id c in
    let group : All (λ x. x < length s.marks) g.types =
    subst (λ (o : Option RecGroup). All (λ x. x < length s.marks) (members_of o)) (sym is) all in
    subst (All (λ x. x < length s.marks)) (sym same) group
