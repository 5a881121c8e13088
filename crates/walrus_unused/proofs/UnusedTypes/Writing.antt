-- A table whose names stand for types that are written keeps them so.
use Rattle.std.proofs.Common.{◌≡◌, ℕ, zero, suc, inl, inr, List, [], ◌∷◌, refl, sym, ap, subst, ◌∙◌, arith, Some, None, Option, IsSome, All}
use Rattle.std.specs.List.{slice_get}
use Rattle.std.specs.Option.{IsSomeAnd}
use Rattle.walrus_ty.specs.Definition.{Definition, Names, names_of}
use Rattle.walrus_ty.specs.Types.{ModuleType, type_definition}
use Rattle.walrus_types.specs.Emission.{group_at, IsMember, IsWritten, IsFreeGroup}
use Rattle.walrus_types.specs.Refusal.{HasIndexBy}
use Rattle.walrus_types.specs.declared.table.rec_group.RecGroup.{RecGroup}
use Rattle.walrus_types.specs.TypesById.{TypeSlots, live_type, IsLive}
use Rattle.walrus_types.specs.Table.{Table, IsTable, IsIdAt, rec_group_at, DeletesAll}
use Rattle.walrus_types.specs.TableEmission.{type_groups, slot_definition, definition_at, slot_is_entry, table_view}
use Rattle.walrus_sections.proofs.Emission.PairsOfGroups.{at_member, to_member}
use Rattle.walrus_unused.specs.NeededTypes.{IsNeeded, named, grouped, AreUnused, Keeps}
use Rattle.walrus_unused.specs.AllIndices.{HasAllIndices}
use Rattle.walrus_unused.proofs.UnusedTypes.Elements.{contains_from_get}
use Rattle.walrus_unused.proofs.UnusedTypes.Keeping.{needed_kept}

pub ids_at :
    (gs : List RecGroup) (g : ℕ) → (group_at (type_groups gs) g).ids ≡ (rec_group_at gs g).types
ids_at [] g = refl
ids_at (x ∷ gs) zero = refl
ids_at (x ∷ gs) (suc g) = ids_at gs g

pub in_table :
    (t : Table) (g u i : ℕ) → IsMember (type_groups t.groups) g u i → IsIdAt t.groups g u i
in_table t g u i m = ap (λ (ids : List ℕ). slice_get ids u) (sym (ids_at t.groups g))
    ∙ at_member (type_groups t.groups) g u i m

pub from_table :
    (t : Table) (g u i : ℕ) → IsIdAt t.groups g u i → IsMember (type_groups t.groups) g u i
from_table t g u i m = to_member (type_groups t.groups) g u i
    (ap (λ (ids : List ℕ). slice_get ids u) (ids_at t.groups g) ∙ m)

-- a name of a live type
pub names_at :
    (slots : TypeSlots) (i k : ℕ) → IsLive slots i → Names (definition_at slots i) k →
    IsSomeAnd (live_type slots i) (λ ty. Names (type_definition ty) k)
names_at slots i k live n = by_type (live_type slots i) live n
  where
    by_type : (o : Option ModuleType) → IsSome o → Names (slot_definition o) k →
        IsSomeAnd o (λ ty. Names (type_definition ty) k)
    by_type None l n = absurd (cc)
    by_type (Some ty) l n = n

module _ (old new : Table) (roots ids : List ℕ) (is : IsTable old) (live : All (IsLive old.types.slots) roots)
    (unused : AreUnused old roots ids) (all : DeletesAll old ids new) where
  kept : Keeps (IsNeeded old roots) old new
  kept = needed_kept old new roots ids is live unused all

  same_group : (g u i : ℕ) → IsIdAt old.groups g u i → IsNeeded old roots i → (v j : ℕ) →
      IsIdAt new.groups g v j → IsIdAt old.groups g v j
  same_group g u i m n v j h = subst (λ (x : RecGroup). slice_get x.types v ≡ Some j) (kept.groups g u i m n)
      h

  still_there : (g u i : ℕ) → IsIdAt old.groups g u i → IsNeeded old roots i → (v j : ℕ) →
      IsIdAt old.groups g v j → IsIdAt new.groups g v j
  still_there g u i m n v j h = subst (λ (x : RecGroup). slice_get x.types v ≡ Some j)
      (sym (kept.groups g u i m n)) h

module _ (old new : Table) (roots ids : List ℕ) (is : IsTable old) (live : All (IsLive old.types.slots) roots)
    (unused : AreUnused old roots ids) (all : DeletesAll old ids new) where
  keeps : Keeps (IsNeeded old roots) old new
  keeps = kept old new roots ids is live unused all

  same_definition : (i : ℕ) → IsNeeded old roots i →
      definition_at new.types.slots i ≡ definition_at old.types.slots i
  same_definition i n = ap slot_definition (keeps.types i n)

  -- a needed id of a group, of which more is said
  module _ (g u i : ℕ) (m : IsIdAt old.groups g u i) (n : IsNeeded old roots i) where
    mate : (v j : ℕ) → IsIdAt old.groups g v j → IsNeeded old roots j
    mate v j h = grouped i j n (g, u, v, m, h)

    written_before : IsWritten (table_view new) g →
        IsWritten (table_view old) g
    written_before (v, j, h, e) =
        let there = same_group old new roots ids is live unused all g u i m n v j (in_table new g v j h) in
        (v, j, from_table old g v j there, sym (ap slot_is_entry (keeps.types j (mate v j there))) ∙ e)

    written_after : IsWritten (table_view old) g →
        IsWritten (table_view new) g
    written_after (v, j, h, e) =
        let there = in_table old g v j h in (
          v,
          j,
          from_table new g v j (still_there old new roots ids is live unused all g u i m n v j there),
          ap slot_is_entry (keeps.types j (mate v j there)) ∙ e,
        )

nothing_stands : (g : RecGroup) (u i : ℕ) → g.types ≡ [] → slice_get g.types u ≡ Some i → ⊥
nothing_stands g u i e h = none u (subst (λ (xs : List ℕ). slice_get xs u ≡ Some i) e h)
  where
    none : (v : ℕ) → slice_get [] v ≡ Some i → ⊥
    none v k = cc

-- a group whose type names one of another group isn't free
own_name :
    (t : Table) (old : Table) → IsTable old → (g u i h v k : ℕ) → IsIdAt old.groups g u i →
    IsIdAt old.groups h v k → IsIdAt t.groups g u i → IsIdAt t.groups h v k →
    Names (definition_at t.types.slots i) k →
    IsFreeGroup (table_view t) g → g ≡ h
own_name t old is g u i h v k m w m' w' n free =
    let e : k ≡ i = free.own u i (from_table t g u i m') k n (h, v, from_table t h v k w') in
    (is.once g u h v k (subst (λ (x : ℕ). IsIdAt old.groups g u x) (sym e) m) w).0

module _ (old new : Table) (roots ids : List ℕ) (is : IsTable old) (live : All (IsLive old.types.slots) roots)
    (unused : AreUnused old roots ids) (all : DeletesAll old ids new) where
  -- the u-th member i of g names k, and both are needed
  module _ (g u i n k : ℕ) (m : IsIdAt old.groups g u i) (needed : IsNeeded old roots i)
      (name : slice_get (names_of (definition_at old.types.slots i)) n ≡ Some k) where
    named_old : Names (definition_at old.types.slots i) k
    named_old = contains_from_get (names_of (definition_at old.types.slots i)) n k name

    named_new : Names (definition_at new.types.slots i) k
    named_new = subst (λ (d : Definition). Names d k)
        (sym (same_definition old new roots ids is live unused all i needed)) named_old

    also_needed : IsLive old.types.slots k → IsNeeded old roots k
    also_needed l = named i k needed (names_at old.types.slots i k (is.live g u i m) named_old) l

    indexed_after : HasIndexBy (table_view old) g k → HasIndexBy (table_view new) g k
    indexed_after has =
        let h = has.home in
        let v = has.place in
        let w = in_table old has.home has.place k has.member in
        let too = also_needed (is.live has.home has.place k w) in
        let w' = still_there old new roots ids is live unused all has.home has.place k w too has.place k w in
        let m' = still_there old new roots ids is live unused all g u i m needed u i m in
        record {
          home = has.home;
          place = has.place;
          written = written_after old new roots ids is live unused all has.home has.place k w too has.written;
          member = from_table new has.home has.place k w';
          by = elim has.by [
            | inl e ↦ inl e
            | inr before ↦ elim before [
              | inl b ↦ (let less = b.0 in inr (inl (
                b.0,
                λ inverts.
                    (let same = own_name new old is g u i h v k m w m' w' named_new
                    (inverts.free g (omega arith) (omega arith) u i (from_table new g u i m')) in let no : ⊥ =
                    omega arith in no),
              )))
              | inr b ↦ (let less = b.0 in let same =
                  own_name old old is g u i h v k m w m w named_old
                  (b.1.free g (omega arith) (omega arith) u i (from_table old g u i m)) in let no : ⊥ =
                  omega arith in absurd no)
            ]
          ];
        }

  pub all_indices_after : HasAllIndices old → HasAllIndices new
  all_indices_after well name miss = nothing_stands (rec_group_at new.groups name.group) name.place name.id
      ((kept old new roots ids is live unused all).emptied name.group (λ v j m needed.
      let there = same_group old new roots ids is live unused all name.group v j m needed name.place name.id
      here in
      let too : IsNeeded old roots name.id = grouped j name.id needed (name.group, v, name.place, m, there) in
      let used : slice_get (names_of (definition_at old.types.slots name.id)) name.position ≡ Some name.named
      = subst (λ (d : Definition). slice_get (names_of d) name.position ≡ Some name.named)
      (same_definition old new roots ids is live unused all name.id too) miss.used in
      well name (record {
        written = written_before old new roots ids is live unused all name.group name.place name.id there too
            miss.written;
        member = from_table old name.group name.place name.id there;
        used = used;
        missing = λ has. miss.missing (indexed_after name.group name.place name.id name.position name.named
            there too used has);
      }))) here
    where
      here : IsIdAt new.groups name.group name.place name.id
      here = in_table new name.group name.place name.id miss.member
