-- What stays of a table after deletions.
use Rattle.std.proofs.Common.{◌≡◌, ◌≢◌, ℕ, zero, suc, Bool, true, false, cond, not, nat_eq, eqb-true, List, [], ◌∷◌, length, refl, sym, ap, subst, ◌∙◌, arith, None, Contains, filter, set, get_or-set_other, inl, inr}
use Rattle.std.proofs.lemmas.Bool.{eqb-false}
use Rattle.std.proofs.lemmas.List.{length-set, length-map}
use Rattle.walrus_types.specs.declared.table.rec_group.RecGroup.{RecGroup}
use Rattle.walrus_types.specs.TypesById.{TypeSlots, live_type}
use Rattle.walrus_types.specs.Table.{Table, rec_group_at, next_id, Deletes, DeletesAll, group_without}
use Rattle.walrus_types.proofs.Tables.DeadTypes.{group_at_without}
use Rattle.std.proofs.lemmas.Bool.Decides.{nat_tests}
use Rattle.walrus_unused.proofs.UnusedTypes.Listing.{filter_keeps}
use Rattle.walrus_unused.proofs.UnusedTypes.Elements.{contains_none, contains_first, contains_rest, contains_cases}

pub set_none : (s : TypeSlots) (id : ℕ) → live_type (set s id None) id ≡ None
set_none [] id = refl
set_none (x ∷ s) zero = refl
set_none (x ∷ s) (suc id) = set_none s id

-- the group without these ids
abbrev pub group_less : List ℕ → RecGroup → RecGroup
group_less [] g = g
group_less (id ∷ ids) g = group_without id (group_less ids g)

-- what deletions of these ids leave
pub record Leaves (old new : Table) (ids : List ℕ) : Type 0 where
  pub stays : (x : ℕ) → (Contains ids x → ⊥) → live_type new.types.slots x ≡ live_type old.types.slots x
  pub dies : (x : ℕ) → Contains ids x → live_type new.types.slots x ≡ None
  pub next : next_id new ≡ next_id old
  pub count : length new.groups ≡ length old.groups
  pub group : (k : ℕ) → rec_group_at new.groups k ≡ group_less ids (rec_group_at old.groups k)

module _ (old new : Table) (id : ℕ) (del : Deletes old new id) where
  one_stays : (x : ℕ) → x ≢ id → live_type new.types.slots x ≡ live_type old.types.slots x
  one_stays x differ = ap (λ (s : TypeSlots). live_type s x) del.types.slots
      ∙ get_or-set_other old.types.slots id x None None differ

  one_dies : live_type new.types.slots id ≡ None
  one_dies = ap (λ (s : TypeSlots). live_type s id) del.types.slots ∙ set_none old.types.slots id

  one_dead : (x : ℕ) → live_type old.types.slots x ≡ None → live_type new.types.slots x ≡ None
  one_dead x h = by_test (nat_eq x id) refl
    where
      by_test : (b : Bool) → b ≡ nat_eq x id → live_type new.types.slots x ≡ None
      by_test true e = ap (live_type new.types.slots) (eqb-true x id (sym e)) ∙ one_dies
      by_test false e = one_stays x (eqb-false x id (sym e)) ∙ h

  one_next : next_id new ≡ next_id old
  one_next = ap (λ (s : TypeSlots). length s) del.types.slots ∙ length-set old.types.slots id None

  one_count : length new.groups ≡ length old.groups
  one_count = ap (λ (gs : List RecGroup). length gs) del.groups ∙ length-map old.groups (group_without id)

  one_group : (k : ℕ) → rec_group_at new.groups k ≡ group_without id (rec_group_at old.groups k)
  one_group k = ap (λ (gs : List RecGroup). rec_group_at gs k) del.groups ∙ group_at_without old.groups id k

pub leaves : (old new : Table) (ids : List ℕ) → DeletesAll old ids new → Leaves old new ids
leaves old new [] all = subst (λ (t : Table). Leaves old t []) (sym all) (record {
  stays = λ x none. refl;
  dies = λ x c. absurd (contains_none x c);
  next = refl;
  count = refl;
  group = λ k. refl;
})
leaves old new (id ∷ ids) (mid, rest, last) =
    let r = leaves old mid ids rest in
    record {
      stays = λ x none. one_stays mid new id last x (λ e.
          none (subst (Contains (id ∷ ids)) (sym e) (contains_first id ids)))
          ∙ r.stays x (λ c. none (contains_rest id ids x c));
      dies = λ x c. elim (contains_cases id ids x c) [
        | inl e ↦ (ap (live_type new.types.slots) e ∙ one_dies mid new id last)
        | inr k ↦ one_dead mid new id last x (r.dies x k)
      ];
      next = one_next mid new id last ∙ r.next;
      count = one_count mid new id last ∙ r.count;
      group = λ k. one_group mid new id last k ∙ ap (group_without id) (r.group k);
    }

-- a group none of whose members goes is the same
filter_all : (id : ℕ) (xs : List ℕ) → (Contains xs id → ⊥) → filter (λ i. not (nat_eq i id)) xs ≡ xs
filter_all id [] none = refl
filter_all id (x ∷ xs) none = by_test (nat_eq x id) refl
    (filter_all id xs (λ c. none (contains_rest x xs id c)))
  where
    by_test : (b : Bool) → b ≡ nat_eq x id → filter (λ i. not (nat_eq i id)) xs ≡ xs →
        cond (not b) (x ∷ filter (λ i. not (nat_eq i id)) xs) (filter (λ i. not (nat_eq i id)) xs) ≡ x ∷ xs
    by_test true e rest = absurd (none (subst (Contains (x ∷ xs)) (eqb-true x id (sym e))
        (contains_first x xs)))
    by_test false e rest = ap (λ (t : List ℕ). x ∷ t) rest

pub group_stays :
    (ids : List ℕ) (g : RecGroup) → ((x : ℕ) → Contains ids x → Contains g.types x → ⊥) →
    group_less ids g ≡ g
group_stays [] g none = refl
group_stays (id ∷ ids) g none =
    let made : List ℕ → RecGroup = λ t. record { types = t; is_explicit = g.is_explicit } in
    let one : group_without id g ≡ g = ap made (filter_all id g.types (λ c.
    none id (contains_first id ids) c)) in
    ap (group_without id) (group_stays ids g (λ x c m. none x (contains_rest id ids x c) m)) ∙ one

-- what stays of a group was in it, and isn't one of the ids
less_keeps :
    (ids : List ℕ) (g : RecGroup) (x : ℕ) → Contains (group_less ids g).types x →
    Contains g.types x × (Contains ids x → ⊥)
less_keeps [] g x c = (c, contains_none x)
less_keeps (id ∷ ids) g x c =
    let k = filter_keeps (λ i. not (nat_eq i id)) (group_less ids g).types x c in
    let r = less_keeps ids g x k.0 in
    (r.0, λ m. elim (contains_cases id ids x m) [ inl e ↦ not_same x id k.1 e | inr later ↦ r.1 later ])
  where
    not_same : (a b : ℕ) → not (nat_eq a b) ≡ true → a ≡ b → ⊥
    not_same a b h e = grind (arith, nat_tests, h, e)

none_left : (xs : List ℕ) → ((x : ℕ) → Contains xs x → ⊥) → xs ≡ []
none_left [] none = refl
none_left (x ∷ xs) none = absurd (none x (contains_first x xs))

-- a group all of whose members go is left without types
pub group_goes :
    (ids : List ℕ) (g : RecGroup) → ((x : ℕ) → Contains g.types x → Contains ids x) →
    (group_less ids g).types ≡ []
group_goes ids g all = none_left (group_less ids g).types (λ x c. let r = less_keeps ids g x c in
    r.1 (all x r.0))
