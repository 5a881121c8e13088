-- A table whose next id is used up.
use Rattle.std.proofs.Common.{◌≡◌, ℕ, zero, suc, ◌-◌, ◌≤◌, List, [], ◌∷◌, ◌++◌, length, refl, sym, ap, subst, ◌∙◌, arith, Some, None, IsSome, true, false, inl, inr}
use Rattle.std.specs.List.{slice_index}
use Rattle.std.proofs.lemmas.{Bool.cases_lt, List.length_push, List.get_or_append_left, List.get_or-append_right}
use Rattle.walrus_arena.specs.{Arena.Slots, Arena.get, Arena.IsLive, Set.Set}
use Rattle.walrus_types.specs.declared.table.rec_group.RecGroup.{RecGroup}
use Rattle.walrus_ty.specs.Types.{ModuleType}
use Rattle.walrus_types.specs.{TypesById.known_id, Table.Table, Table.IsIdAt, Table.rec_group_at, Steps.TableIndex.IsIndexed, Steps.TableReads.UsesUpId}
use Rattle.walrus_types.proofs.Tables.{Places.live_below, TypeSet.seen}

none_there : {T : Type 0} (k : ℕ) → get {T = T} (None ∷ []) k ≡ None
none_there zero = refl
none_there (suc k) = refl

live_old : {T : Type 0} (s : Slots T) (id : ℕ) → IsLive (s ++ None ∷ []) id → IsLive s id
live_old {T} s id live = elim (cases_lt id (length s)) [
  | inl w ↦ subst IsSome (get_or_append_left s (None ∷ []) None id w) live
  | inr w ↦ (let e : get (s ++ None ∷ []) id ≡ None =
      get_or-append_right s (None ∷ []) (length s) id None refl w ∙ none_there {T = T} (id - length s) in
      let h : false ≡ true = subst IsSome e live in let k : ⊥ = cc in absurd k)
]

module _ (t new : Table) (go : List ℕ) (is : IsIndexed t go) (uses : UsesUpId t new) where
  abbrev go' : List ℕ
  go' = go ++ 0 ∷ []

  was_live : (id : ℕ) → IsLive new.types.slots id → IsLive t.types.slots id
  was_live id live = live_old t.types.slots id (subst (λ (s : Slots ModuleType). IsLive s id) uses.slots live)

  still_live : (id : ℕ) → IsLive t.types.slots id → IsLive new.types.slots id
  still_live id live = subst (λ (s : Slots ModuleType). IsLive s id) (sym uses.slots)
      (subst IsSome (sym (get_or_append_left t.types.slots (None ∷ []) None id
      (live_below t.types.slots id live))) live)

  same_number : (id : ℕ) → IsLive t.types.slots id → slice_index go' id ≡ slice_index go id
  same_number id live = let b = live_below t.types.slots id live in
      get_or_append_left go (0 ∷ []) 0 id (omega (arith, b, is.one_each))

  was_member : (k u id : ℕ) → IsIdAt new.groups k u id → IsIdAt t.groups k u id
  was_member k u id m = subst (λ (gs : List RecGroup). IsIdAt gs k u id) uses.groups m

  same_group : (k : ℕ) → rec_group_at new.groups k ≡ rec_group_at t.groups k
  same_group k = ap (λ (gs : List RecGroup). rec_group_at gs k) uses.groups

  was_mapped : (q : ModuleType) (id : ℕ) → known_id new.types q ≡ Some id → known_id t.types q ≡ Some id
  was_mapped q id h = sym (uses.map q) ∙ h

  pub used_up_indexed : IsIndexed new go'
  used_up_indexed = record {
    one_each = omega (
      arith,
      length_push go 0,
      is.one_each,
      ap length uses.slots,
      length_push t.types.slots None,
    );
    grouping = λ id live. (let old = was_live id live in let m = is.grouping id old in (
      m.0,
      subst (λ (k : ℕ). IsIdAt new.groups k m.0 id) (sym (same_number id old))
          (subst (λ (gs : List RecGroup). IsIdAt gs (slice_index go id) m.0 id) (sym uses.groups) m.1),
    ));
    live = λ k u id m. still_live id (is.live k u id (was_member k u id m));
    own = λ k u id m. (let old = was_member k u id m in same_number id (is.live k u id old)
        ∙ is.own k u id old);
    once = λ k u v id m l. is.once k u v id (was_member k u id m) (was_member k v id l);
    single = λ k h. subst (λ (g : RecGroup). length g.types ≤ 1) (sym (same_group k))
        (is.single k (ap (λ (g : RecGroup). g.is_explicit) (sym (same_group k)) ∙ h));
    known_implicit = λ q id h live. (let old = was_live id live in
        ap (λ (k : ℕ). (rec_group_at new.groups k).is_explicit) (same_number id old)
        ∙ (ap (λ (g : RecGroup). g.is_explicit) (same_group (slice_index go id))
        ∙ is.known_implicit q id (was_mapped q id h) old));
    known_below = λ q id h. (let b = is.known_below q id (was_mapped q id h) in
        omega (arith, b, ap length uses.slots, length_push t.types.slots None));
  }

-- a new slot that is dead from the start
pub uses_up : (old new : Set ModuleType) (groups : List RecGroup) →
    new ≡ record { slots = old.slots ++ None ∷ []; entries = old.entries; keys = old.keys } →
    UsesUpId (record { types = seen old; groups = groups }) (record { types = seen new; groups = groups })
uses_up old new groups is = record {
  slots = ap (λ (s : Set ModuleType). s.slots) is;
  map = λ q. ap (λ (s : Set ModuleType). known_id (seen s) q) is;
  groups = refl;
  keys = ap (λ (s : Set ModuleType). s.keys) is;
}
