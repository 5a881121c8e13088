-- What a table answered goes on being an answer.
use Rattle.std.proofs.Common.{◌≡◌, ℕ, zero, suc, ◌<◌, List, [], ◌∷◌, ◌++◌, length, Option, Some, None, sym, ap, subst, ◌∙◌, arith, IsSomeAnd, MatchOption, Contains}
use Rattle.std.proofs.lemmas.List.{get_or_append_left}
use Rattle.std.proofs.lemmas.List.Elements.{Contains-append_left}
use Rattle.walrus_types.specs.declared.table.rec_group.RecGroup.{RecGroup}
use Rattle.walrus_ty.specs.Types.{ModuleType}
use Rattle.walrus_types.specs.TypesById.{TypeSlots, live_type, found_id}
use Rattle.walrus_ty.specs.SameTypes.{IsSameType}
use Rattle.walrus_types.specs.Table.{Table, own_group, IsSameTable, AddsType, FindsOrAdds, HoldsAlone}

live_below : (s : TypeSlots) (id : ℕ) (P : ModuleType → Type 0) → IsSomeAnd (live_type s id) P → id < length s
live_below [] id P some = absurd some
live_below (x ∷ s) zero P some = omega arith
live_below (x ∷ s) (suc id) P some = let k = live_below s id P some in omega arith

live_pushed : (s new : TypeSlots) (y : Option ModuleType) (id : ℕ) (P : ModuleType → Type 0) →
    new ≡ s ++ y ∷ [] → IsSomeAnd (live_type s id) P → IsSomeAnd (live_type new id) P
live_pushed s new y id P e some =
    let read : live_type new id ≡ live_type s id = ap (λ (t : TypeSlots). live_type t id) e
    ∙ get_or_append_left s (y ∷ []) None id (live_below s id P some) in
    subst (λ (o : Option ModuleType). IsSomeAnd o P) (sym read) some

pub holds-stays : (between new : Table) (x y : ModuleType) (id other : ℕ) →
    HoldsAlone between x id → FindsOrAdds between new y other → HoldsAlone new x id
holds-stays between new x y id other answer step = go (found_id between.types y) step
  where
    go : (o : Option ℕ) → MatchOption o (AddsType between new y other) (λ known. (other ≡ known)
        × IsSameTable between new) → HoldsAlone new x id
    go None adds =
        let InGroups : List RecGroup → Type 0 = λ g. Contains g (own_group id) in
        record {
          same = live_pushed between.types.slots new.types.slots (Some y) id (IsSameType x) adds.types.slots
              answer.same;
          alone = subst InGroups (sym adds.groups)
              (Contains-append_left between.groups (own_group other ∷ []) (own_group id) answer.alone);
        }
    go (Some known) same =
        let InGroups : List RecGroup → Type 0 = λ g. Contains g (own_group id) in
        let InSlots : TypeSlots → Type 0 = λ s. IsSomeAnd (live_type s id) (IsSameType x) in
        record {
          same = subst InSlots (sym same.1.types.slots) answer.same;
          alone = subst InGroups (sym same.1.groups) answer.alone;
        }
