-- Lemmas on tables that gain a type.
use Rattle.std.proofs.Common.{◌≡◌, ℕ, zero, suc, ◌<◌, ◌≤◌, List, [], ◌∷◌, ◌++◌, length, get_or, refl, sym, ap, subst, ◌∙◌, arith, Some, None, Option, IsSome, IfSome, option_and_then, Bool, true, false, cond, ◌⊎◌, inl, inr, Result, Ok, Err, OnErr}
use Rattle.std.specs.{List.slice_get, List.slice_index, Option.IsSomeAnd}
use Rattle.std.proofs.lemmas.{List.length_push, List.get_or_append_left, List.get_or_at, List.get_or_default, Option.cond_some}
use Rattle.walrus_arena.specs.Arena.{Slots, get}
use Rattle.walrus_types.specs.declared.table.rec_group.RecGroup.{RecGroup}
use Rattle.walrus_ty.specs.{Types.ModuleType, SameTypes.type_eq, SameTypes.IsSameType}
use Rattle.walrus_types.specs.{TypesById.passes, TypesById.known_id, TypesById.found_id, Steps.TableIndex.IsIndexed}
use Rattle.walrus_types.specs.Table.{Table, rec_group_at, no_rec_group, own_group, IsIdAt, AddsType, HoldsAlone}
use Rattle.walrus_ty.proofs.{Equality.Types.same_from_eq, Basics.some_inj}
use Rattle.walrus_types.proofs.Tables.Places.{Grows, Extends, table_grown, member_below, none_some}

pub one_of :
    (b : Bool) (x i : ℕ) (o : Option ℕ) → cond b (Some x) o ≡ Some i →
    ((b ≡ true) × (x ≡ i)) ⊎ (o ≡ Some i)
one_of true x i o h = inl (refl, some_inj h)
one_of false x i o h = inr h

pub extends_push : (go : List ℕ) (m : ℕ) → Extends go (go ++ m ∷ []) 1 m
extends_push go m = record {
  many = length_push go m;
  old = λ i below. get_or_append_left go (m ∷ []) 0 i below;
  last = λ i low high. get_or_at go m [] 0 i (omega (arith, low, high));
}

pub added_grows :
    (t new : Table) (ty : ModuleType) (id : ℕ) → AddsType t new ty id →
    Grows t new (ty ∷ []) (own_group id)
added_grows t new ty id adds = record {
  slots = adds.types.slots;
  groups = adds.groups;
  members = ap (λ (n : ℕ). n ∷ []) adds.types.is_next;
  single = λ h. omega arith;
  map = λ q i h. elim (one_of (type_eq ty q) id i (known_id t.types q) (sym (adds.types.map q) ∙ h)) [
    | inl e ↦ inr (refl, omega (arith, e.1, adds.types.is_next), omega (arith, e.1, adds.types.is_next))
    | inr was ↦ inl was
  ];
}

pub table_added :
    (t new : Table) (go : List ℕ) (ty : ModuleType) (id : ℕ) → IsIndexed t go →
    AddsType t new ty id → IsIndexed new (go ++ length t.groups ∷ [])
table_added t new go ty id is adds = table_grown t new go (go ++ length t.groups ∷ []) (ty ∷ [])
    (own_group id) is (added_grows t new ty id adds) (extends_push go (length t.groups))

pub IsSameType-refl : (ty : ModuleType) → IsSameType ty ty
IsSameType-refl ty = record { kind = refl; is_final = refl; supertype = refl; is_for_function_entry = refl }

pub answer_new :
    (t new : Table) (ty : ModuleType) (id : ℕ) → AddsType t new ty id → HoldsAlone new ty id
answer_new t new ty id adds =
    let shown : get new.types.slots id ≡ Some ty = ap (λ (s : Slots ModuleType). get s id) adds.types.slots
    ∙ get_or_at t.types.slots (Some ty) [] None id (sym adds.types.is_next) in
    let within : length t.groups < length new.groups =
    omega (arith, length_push t.groups (own_group id), ap length adds.groups) in
    record {
      same = subst (λ (o : Option ModuleType). IsSomeAnd o (IsSameType ty)) (sym shown) (IsSameType-refl ty);
      alone = (
        length t.groups,
        within,
        ap (λ (gs : List RecGroup).
            get_or gs (length t.groups) (own_group id)) adds.groups
            ∙ get_or_at t.groups (own_group id) [] (own_group id) (length t.groups) refl,
      );
    }

one_item : (xs : List ℕ) (u id : ℕ) → slice_get xs u ≡ Some id → length xs ≤ 1 → xs ≡ id ∷ []
one_item [] u id h few = absurd (none_some h)
one_item (x ∷ []) zero id h few = ap (λ (n : ℕ). n ∷ []) (some_inj h)
one_item (x ∷ []) (suc u) id h few = absurd (none_some h)
one_item (x ∷ y ∷ xs) u id h few = absurd (omega (arith, few))

-- a group without the mark is its one member's own
pub group_is_own :
    (g : RecGroup) (u id : ℕ) → slice_get g.types u ≡ Some id → g.is_explicit ≡ false →
    length g.types ≤ 1 → g ≡ own_group id
group_is_own g u id h mark few =
    let made : List ℕ → Bool → RecGroup = λ ids b. record { types = ids; is_explicit = b } in
    ap (λ (ids : List ℕ). made ids g.is_explicit) (one_item g.types u id h few) ∙ ap (made (id ∷ [])) mark

holds_same :
    (ty : ModuleType) (o : Option ModuleType) → passes (type_eq ty) o ≡ true →
    IsSomeAnd o (IsSameType ty) × IsSome o
holds_same ty None h = let c : ⊥ = cc in absurd c
holds_same ty (Some x) h = (same_from_eq ty x h, refl)

module _ (t : Table) (go : List ℕ) (ty : ModuleType) (is : IsIndexed t go) where
  -- what the map leads to, where it is equal
  answer_mapped : (id : ℕ) → known_id t.types ty ≡ Some id →
      passes (type_eq ty) (get t.types.slots id) ≡ true → HoldsAlone t ty id
  answer_mapped id leads equal =
      let same : _ = holds_same ty (get t.types.slots id) equal in
      let home : ℕ = slice_index go id in
      let p : (u : ℕ) × IsIdAt t.groups (slice_index go id) u id = is.grouping id same.1 in
      let mark : (rec_group_at t.groups (slice_index go id)).is_explicit ≡ false =
      is.known_implicit ty id leads same.1 in
      let own : rec_group_at t.groups (slice_index go id) ≡ own_group id =
      group_is_own (rec_group_at t.groups (slice_index go id)) p.0 id p.1 mark
      (is.single (slice_index go id) mark) in
      let below : slice_index go id < length t.groups =
      member_below t.groups (slice_index go id) p.0 id p.1 in
      record {
        same = same.0;
        alone = (
          slice_index go id,
          below,
          sym (get_or_default t.groups (slice_index go id) no_rec_group (own_group id) below) ∙ own,
        );
      }

  pub found-holds : (o : Option ℕ) → o ≡ found_id t.types ty → IfSome o (λ id. HoldsAlone t ty id)
  found-holds None e = tt
  found-holds (Some id) e = by_map (known_id t.types ty) refl (sym e)
    where
      by_map : (m : Option ℕ) → m ≡ known_id t.types ty → option_and_then
          (λ i. cond (passes (type_eq ty) (get t.types.slots i)) (Some i) None) m ≡ Some id →
          HoldsAlone t ty id
      by_map None e f = absurd (none_some f)
      by_map (Some i) e f =
          let two : _ = cond_some (passes (type_eq ty) (get t.types.slots i)) i id f in
          answer_mapped id (sym e ∙ ap Some two.1)
          (subst (λ (n : ℕ). passes (type_eq ty) (get t.types.slots n) ≡ true) two.1 two.0)

pub on_err_holds : {X E P : Type 0} (r : Result X E) → P → OnErr r P
on_err_holds (Ok x) p = tt
on_err_holds (Err e) p = p
