-- Lemmas on tables that lose one type after the other, and on their live ids.
use Rattle.std.proofs.Common.{◌≡◌, ℕ, zero, suc, ◌+◌, ◌<◌, List, [], ◌∷◌, All, length, map, drop, refl, sym, ap, subst, ◌∙◌, arith, Some, None, IsSome, false, nat_eq, cond, filter, is_some, get_or, get_or-set_other}
use Rattle.std.specs.List.{range_with_len, IsDistinct, AllByRecursion}
use Rattle.std.proofs.lemmas.Bool.{eqb-false}
use Rattle.walrus_arena.specs.Arena.{Slots, get, IsLive, items_from}
use Rattle.walrus_ty.specs.Types.{ModuleType}
use Rattle.walrus_types.specs.Table.{Table, DeletesAll}

-- another id stays live
pub others_stay :
    (old new : Table) (ids : List ℕ) (id : ℕ) → DeletesAll old ids new →
    AllByRecursion (λ y. nat_eq id y ≡ false) ids → IsLive old.types.slots id →
    IsLive new.types.slots id
others_stay old new [] id all apart live = subst (λ (t : Table). IsLive t.types.slots id) (sym all) live
others_stay old new (first ∷ ids) id (mid, all, last) apart live =
    let kept : get new.types.slots id ≡ get mid.types.slots id =
    ap (λ (s : Slots ModuleType). get s id) last.types.slots
    ∙ get_or-set_other mid.types.slots first id None None (eqb-false id first apart.0) in
    subst IsSome (sym kept) (others_stay old mid ids id all apart.1 live)

-- an id of distinct ones differs from those after it
apart_from_later :
    (ids : List ℕ) (k d : ℕ) → IsDistinct nat_eq ids → k < length ids →
    AllByRecursion (λ y. nat_eq (get_or ids k d) y ≡ false) (drop (suc k) ids)
unfolding IsDistinct
apart_from_later [] k d distinct below = absurd (omega (arith, below))
apart_from_later (x ∷ ids) zero d distinct below = distinct.0
apart_from_later (x ∷ ids) (suc k) d distinct below =
    apart_from_later ids k d distinct.1 (omega (arith, below))

-- the next of these ids, from the last to the first, is live
pub next_live :
    (old mid : Table) (ids : List ℕ) (i k d : ℕ) → i ≡ suc k → k < length ids →
    All (IsLive old.types.slots) ids → IsDistinct nat_eq ids → DeletesAll old (drop i ids) mid →
    IsLive mid.types.slots (get_or ids k d)
next_live old mid ids i k d next below live distinct all =
    let later = subst (λ (n : ℕ). DeletesAll old (drop n ids) mid) next all in
    others_stay old mid (drop (suc k) ids) (get_or ids k d) later (apart_from_later ids k d distinct below)
    (live k d below)

-- the ids of the live slots from b on
ids_listed :
    {T : Type 0} (all : Slots T) (b : ℕ) (s : Slots T) → ((j : ℕ) → get all (b + j) ≡ get s j) →
    map (λ item. item.0) (items_from b s) ≡
    filter (λ id. is_some (get all id)) (range_with_len b (length s))
ids_listed all b [] same = refl
ids_listed all b (None ∷ s) same =
    let e : b ≡ b + 0 = omega arith in
    let rest = ids_listed all (b + 1) s (λ j. let f : b + 1 + j ≡ b + suc j = omega arith in ap (get all) f
    ∙ same (suc j)) in
    let ns : List ℕ = filter (λ id. is_some (get all id)) (range_with_len (b + 1) (length s)) in
    rest ∙ sym (ap (λ o. cond (is_some o) (b ∷ ns) ns) (ap (get all) e ∙ same 0))
ids_listed all b (Some x ∷ s) same =
    let e : b ≡ b + 0 = omega arith in
    let rest = ids_listed all (b + 1) s (λ j. let f : b + 1 + j ≡ b + suc j = omega arith in ap (get all) f
    ∙ same (suc j)) in
    let ns : List ℕ = filter (λ id. is_some (get all id)) (range_with_len (b + 1) (length s)) in
    ap (λ (ms : List ℕ). b ∷ ms) rest ∙ sym (ap (λ o. cond (is_some o) (b ∷ ns) ns) (ap (get all) e ∙ same 0))

pub live_listed :
    {T : Type 0} (s : Slots T) →
    map (λ item. item.0) (items_from 0 s) ≡
    filter (λ id. is_some (get s id)) (range_with_len 0 (length s))
live_listed s = ids_listed s 0 s (λ j. let e : 0 + j ≡ j = omega arith in ap (get s) e)
