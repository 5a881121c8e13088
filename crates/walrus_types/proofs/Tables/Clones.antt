-- A clone of a table.
use Rattle.std.proofs.Common.{◌≡◌, ℕ, zero, suc, List, [], ◌∷◌, Option, None, Some, IsSome, length, map, All, refl, sym, ◌∙◌, arith, rules}
use Rattle.std.specs.List.{AllZip}
use Rattle.std.proofs.lemmas.List.Elements.{length_all_zip, same_from_all_zip}
use Rattle.walrus_arena.specs.Arena.{AreClones, IsValueClone}
use Rattle.walrus_arena.specs.Set.{Set, IsSetClone}
use Rattle.walrus_ty.specs.Types.{ModuleType}
use Rattle.walrus_ty.specs.SameTypes.{type_eq}
use Rattle.walrus_ty.specs.contracts.ty.TypeClone.TheImpl.{ghosts as type_clone}
use Rattle.walrus_ty.proofs.Equality.Types.{clones_equal}
use Rattle.walrus_types.specs.Steps.TableIndex.{IsIndexed}
use Rattle.walrus_types.specs.Table.{Table, IsTableClone}
use Rattle.walrus_types.specs.TypesById.{TypeSlots, IsLive}
use Rattle.walrus_types.specs.contracts.table.rec_group.RecGroupClone.TheImpl.{ghosts as group_clone}
use Rattle.walrus_types.specs.declared.table.rec_group.RecGroup.{RecGroup}
use Rattle.walrus_types.proofs.Tables.TypeSet.{seen}

-- the same ids are live
same_live : (old new : TypeSlots) → AreClones type_clone.is_clone old new → (id : ℕ) →
    (IsLive old id → IsLive new id) × (IsLive new id → IsLive old id)
same_live [] [] are id = (λ l. l, λ l. l)
same_live [] (n ∷ new) are id = absurd are
same_live (o ∷ old) [] are id = absurd are
same_live (None ∷ old) (None ∷ new) are zero = (λ l. l, λ l. l)
same_live (None ∷ old) (Some y ∷ new) are zero = absurd are.0
same_live (Some x ∷ old) (None ∷ new) are zero = absurd are.0
same_live (Some x ∷ old) (Some y ∷ new) are zero = (λ l. refl, λ l. refl)
same_live (o ∷ old) (n ∷ new) are (suc id) = same_live old new are.1 id

pub clone_indexed : (t new : Table) (go : List ℕ) → IsIndexed t go → IsTableClone t new → IsIndexed new go
clone_indexed t new go is clone =
    let lives = same_live t.types.slots new.types.slots clone.slots in
    let many = length_all_zip (IsValueClone type_clone.is_clone) t.types.slots new.types.slots clone.slots in
    rw clone.groups (record {
      one_each = is.one_each ∙ many;
      grouping = λ id live. is.grouping id ((lives id).1 live);
      live = λ k u id h. (lives id).0 (is.live k u id h);
      own = is.own;
      once = is.once;
      single = is.single;
      known_implicit = λ q id h live. is.known_implicit q id (sym (clone.map q) ∙ h) ((lives id).1 live);
      known_below = λ q id h. (let below = is.known_below q id (sym (clone.map q) ∙ h) in omega (arith, below, many));
    })

-- a clone of a group is the group
group_same : (source copy : RecGroup) → group_clone.is_clone source copy → copy ≡ source
group_same source copy clone = search (rules, same_from_all_zip)

pub groups_same : (old new : List RecGroup) → AllZip group_clone.is_clone old new → new ≡ old
groups_same old new clones = same_from_all_zip group_clone.is_clone old new clones group_same

pub set_cloned :
    (old new : Set ModuleType) (groups : List RecGroup) → IsSetClone type_clone.is_clone type_eq old new →
    IsTableClone (record { types = seen old; groups = groups }) (record { types = seen new; groups = groups })
set_cloned old new groups is =
    record { slots = is.slots; map = is.map clones_equal; keys = is.keys; groups = refl }
