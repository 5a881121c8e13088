-- What is found by value after deletions.
use Rattle.std.proofs.Common.{◌≡◌, ◌≢◌, ℕ, Bool, true, false, cond, ◌&&◌, nat_eq, eqb-true, List, [], ◌∷◌, refl, sym, ap, subst, ◌∙◌, Some, None, Option, Contains, get_or-set_other, inl, inr}
use Rattle.std.specs.Option.{option_eq, option_and_then}
use Rattle.std.specs.Map.{lookup}
use Rattle.walrus_ty.specs.Types.{ModuleType}
use Rattle.walrus_ty.specs.SameTypes.{type_eq, IsSameType}
use Rattle.walrus_ty.proofs.Equality.Types.{same_from_eq, eq_from_same}
use Rattle.walrus_ty.proofs.Basics.{and_left, and_right, some_inj}
use Rattle.walrus_types.specs.TypesById.{TypesById, TypeSlots, live_type, passes, known_id, found_id, is_known_as, Loses}
use Rattle.walrus_types.specs.Table.{Table, DeletesAll}
use Rattle.walrus_types.proofs.Tables.DeadTypes.{kept_old}
use Rattle.walrus_unused.proofs.UnusedTypes.Elements.{contains_none, contains_first, contains_rest, contains_cases}
use Rattle.walrus_unused.proofs.UnusedTypes.Deleting.{set_none}

-- equal types are equal to the same types

same_back : (x y : ModuleType) → IsSameType x y → IsSameType y x
same_back x y s = record {
  kind = sym s.kind;
  is_final = sym s.is_final;
  supertype = sym s.supertype;
  is_for_function_entry = sym s.is_for_function_entry;
}

same_on : (x y z : ModuleType) → IsSameType x y → IsSameType y z → IsSameType x z
same_on x y z s t = record {
  kind = s.kind ∙ t.kind;
  is_final = s.is_final ∙ t.is_final;
  supertype = s.supertype ∙ t.supertype;
  is_for_function_entry = s.is_for_function_entry ∙ t.is_for_function_entry;
}

both_ways : (a b : Bool) → (a ≡ true → b ≡ true) → (b ≡ true → a ≡ true) → a ≡ b
both_ways true b f g = sym (f refl)
both_ways false true f g = g refl
both_ways false false f g = refl

eq_alike : (x y z : ModuleType) → IsSameType x y → type_eq x z ≡ type_eq y z
eq_alike x y z s = both_ways (type_eq x z) (type_eq y z)
    (λ h. eq_from_same y z (same_on y x z (same_back x y s) (same_from_eq x z h)))
    (λ h. eq_from_same x z (same_on x y z s (same_from_eq y z h)))

lookup_alike :
    (f g : ModuleType → Bool) → ((z : ModuleType) → f z ≡ g z) → (es : List (ModuleType × ℕ)) →
    lookup f es ≡ lookup g es
lookup_alike f g same [] = refl
lookup_alike f g same (e ∷ es) =
    ap (λ (b : Bool). cond b (Some e.1) (lookup f es)) (same e.0)
    ∙ ap (λ (o : Option ℕ). cond (g e.0) (Some e.1) o) (lookup_alike f g same es)

known_alike : (t : TypesById) (x y : ModuleType) → type_eq x y ≡ true → known_id t x ≡ known_id t y
known_alike t x y h = lookup_alike (type_eq x) (type_eq y) (λ z. eq_alike x y z (same_from_eq x y h))
    t.entries

option_same : (o : Option ℕ) (n : ℕ) → option_eq (λ a b. nat_eq a b) o (Some n) ≡ true → o ≡ Some n
option_same None n h = cc
option_same (Some m) n h = ap (λ (k : ℕ). Some k) (eqb-true m n h)

-- what is known at a live id as itself, is known at that id
known_at :
    (t : TypesById) (id : ℕ) (q : ModuleType) → is_known_as t id q ≡ true →
    known_id t q ≡ Some id
known_at t id q h = by_type (live_type t.slots id) h
  where
    by_type : (o : Option ModuleType) → passes (λ ty.
        type_eq ty q && option_eq (λ a b. nat_eq a b) (known_id t ty) (Some id)) o ≡ true →
        known_id t q ≡ Some id
    by_type None h = cc
    by_type (Some ty) h =
        let same = and_left (type_eq ty q) (option_eq (λ a b. nat_eq a b) (known_id t ty) (Some id)) h in
        let there = and_right (type_eq ty q) (option_eq (λ a b. nat_eq a b) (known_id t ty) (Some id)) h in
        sym (known_alike t ty q same) ∙ option_same (known_id t ty) id there

-- what is found is noted, and its type is equal
pub found_parts :
    (t : TypesById) (q : ModuleType) (id : ℕ) → found_id t q ≡ Some id →
    (known_id t q ≡ Some id) × (passes (type_eq q) (live_type t.slots id) ≡ true)
found_parts t q id h = by_known (known_id t q) h
  where
    by_passes : (k : ℕ) (b : Bool) → b ≡ passes (type_eq q) (live_type t.slots k) →
        cond b (Some k) None ≡ Some id → (Some k ≡ Some id)
        × (passes (type_eq q) (live_type t.slots id) ≡ true)
    by_passes k true e h = (
      h,
      ap (λ (n : ℕ). passes (type_eq q) (live_type t.slots n)) (sym (some_inj h))
          ∙ sym e,
    )
    by_passes k false e h = absurd (cc)

    by_known : (o : Option ℕ) → option_and_then
        (λ k. cond (passes (type_eq q) (live_type t.slots k)) (Some k) None) o ≡ Some id → (o ≡ Some id)
        × (passes (type_eq q) (live_type t.slots id) ≡ true)
    by_known None h = absurd (cc)
    by_known (Some k) h = by_passes k (passes (type_eq q) (live_type t.slots k)) refl h

pub found_from_parts :
    (t : TypesById) (q : ModuleType) (id : ℕ) → known_id t q ≡ Some id →
    passes (type_eq q) (live_type t.slots id) ≡ true → found_id t q ≡ Some id
found_from_parts t q id known pass =
    ap (option_and_then (λ k. cond (passes (type_eq q) (live_type t.slots k)) (Some k) None)) known
    ∙ ap (λ (b : Bool). cond b (Some id) None) pass

module _ (old new : TypesById) (id : ℕ) (loses : Loses old new id) where
  found_before : (q : ModuleType) (x : ℕ) → found_id new q ≡ Some x → (found_id old q ≡ Some x) × (x ≢ id)
  found_before q x h =
      let parts = found_parts new q x h in
      let was : known_id old q ≡ Some x = kept_old (is_known_as old id q) (known_id old q) x
      (sym (loses.map q) ∙ parts.0) in
      let differ : x ≢ id = λ e. none_passes q (sym
      (ap (λ (n : ℕ). passes (type_eq q) (live_type new.slots n)) e
      ∙ ap (passes (type_eq q)) (ap (λ (s : TypeSlots). live_type s id) loses.slots
      ∙ set_none old.slots id)) ∙ parts.1) in
      let same : live_type new.slots x ≡ live_type old.slots x =
      ap (λ (s : TypeSlots). live_type s x) loses.slots
      ∙ get_or-set_other old.slots id x None None differ in
      (found_from_parts old q x was (ap (passes (type_eq q)) (sym same) ∙ parts.1), differ)
    where
      none_passes : (q : ModuleType) → false ≡ true → ⊥
      none_passes q e = cc

  found_after : (q : ModuleType) (x : ℕ) → found_id old q ≡ Some x → x ≢ id → found_id new q ≡ Some x
  found_after q x h differ =
      let parts = found_parts old q x h in
      let same : live_type new.slots x ≡ live_type old.slots x =
      ap (λ (s : TypeSlots). live_type s x) loses.slots
      ∙ get_or-set_other old.slots id x None None differ in
      let known : known_id new q ≡ Some x = loses.map q ∙ still (is_known_as old id q) refl parts.0 in
      found_from_parts new q x known (ap (passes (type_eq q)) same ∙ parts.1)
    where
      still : (b : Bool) → b ≡ is_known_as old id q → known_id old q ≡ Some x →
          cond b None (known_id old q) ≡ Some x
      still true e was = absurd (differ (some_inj (sym was ∙ known_at old id q (sym e))))
      still false e was = was

-- what is found after deletions is what was found, and was not deleted
pub found_left :
    (old new : Table) (ids : List ℕ) → DeletesAll old ids new → (q : ModuleType) (x : ℕ) →
    found_id new.types q ≡ Some x → (found_id old.types q ≡ Some x) × (Contains ids x → ⊥)
found_left old new [] all q x h = (subst (λ (t : Table). found_id t.types q ≡ Some x) all h, contains_none x)
found_left old new (id ∷ ids) (mid, rest, last) q x h =
    let s = found_before mid.types new.types id last.types q x h in
    let r = found_left old mid ids rest q x s.0 in
    (r.0, λ c. elim (contains_cases id ids x c) [ inl e ↦ s.1 e | inr k ↦ r.1 k ])

pub found_still :
    (old new : Table) (ids : List ℕ) → DeletesAll old ids new → (q : ModuleType) (x : ℕ) →
    found_id old.types q ≡ Some x → (Contains ids x → ⊥) → found_id new.types q ≡ Some x
found_still old new [] all q x h none = subst (λ (t : Table). found_id t.types q ≡ Some x) (sym all) h
found_still old new (id ∷ ids) (mid, rest, last) q x h none =
    let r = found_still old mid ids rest q x h (λ c. none (contains_rest id ids x c)) in
    found_after mid.types new.types id last.types q x r (λ e.
    none (subst (Contains (id ∷ ids)) (sym e) (contains_first id ids)))
