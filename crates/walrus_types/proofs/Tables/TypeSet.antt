-- What the set of types in a table's code says in the words of the table.
use Rattle.std.proofs.Common.{◌≡◌, ℕ, zero, suc, ◌+◌, List, [], ◌∷◌, map, refl, ap, ◌∙◌, Option, Some, None, option_and_then, Bool, cond}
use Rattle.std.specs.{List.filter_map, List.range_with_len, Map.lookup}
use Rattle.walrus_arena.specs.Arena.{Slots, get, items_from, range}
use Rattle.walrus_arena.specs.Set as arena
use Rattle.walrus_arena.specs.Set.{Set, IsSame, Adds, Removes, RemovesAll}
use Rattle.walrus_ty.specs.{Types.ModuleType, SameTypes.type_eq}
use Rattle.walrus_types.specs.TypesById.{TypesById, passes, known_id, found_id, is_known_as, IsUnchanged, Gains, Loses, LosesAll}

-- the types of a set
abbrev pub seen : Set ModuleType → TypesById
seen s = record { slots = s.slots; entries = s.entries; keys = s.keys }

holds_seen : (test : ModuleType → Bool) (o : Option ModuleType) → arena.holds test o ≡ passes test o
holds_seen test None = refl
holds_seen test (Some ty) = refl

pub found_seen :
    (s : Set ModuleType) (q : ModuleType) → arena.found_id type_eq s q ≡ found_id (seen s) q
found_seen s q = by_map (lookup (type_eq q) s.entries)
  where
    by_map : (o : Option ℕ) → option_and_then (λ id.
        cond (arena.holds (type_eq q) (get s.slots id)) (Some id) None) o ≡ option_and_then
        (λ id. cond (passes (type_eq q) (get s.slots id)) (Some id) None) o
    by_map None = refl
    by_map (Some id) = ap (λ (b : Bool). cond b (Some id) None) (holds_seen (type_eq q) (get s.slots id))

pub same_seen :
    (old new : Set ModuleType) → IsSame type_eq old new → IsUnchanged (seen old) (seen new)
same_seen old new same = record { slots = same.slots; map = same.map; keys = same.keys }

pub adds_seen :
    (old new : Set ModuleType) (ty : ModuleType) (id : ℕ) → Adds type_eq old new ty id →
    Gains (seen old) (seen new) ty id
adds_seen old new ty id adds = record {
  is_next = adds.named;
  slots = adds.slots;
  map = adds.map;
  keys = adds.keys;
}

pub removes_seen :
    (old new : Set ModuleType) (id : ℕ) → Removes type_eq old new id →
    Loses (seen old) (seen new) id
removes_seen old new id removes = record {
  slots = removes.slots;
  map = λ q. (let own : arena.is_own_entry type_eq old id q ≡ is_known_as (seen old) id q =
      holds_seen _ (get old.slots id) in removes.map q
      ∙ ap (λ (b : Bool). cond b None (known_id (seen old) q)) own);
  keys = removes.keys;
}

pub removes_all_seen :
    (old new : Set ModuleType) (ids : List ℕ) → RemovesAll type_eq old ids new →
    LosesAll (seen old) ids (seen new)
removes_all_seen old new [] same = same_seen old new same
removes_all_seen old new (id ∷ ids) all = (
  seen all.0,
  removes_seen old all.0 id all.1,
  removes_all_seen all.0 new ids all.2,
)

pub range_seen : (first count : ℕ) → range first count ≡ range_with_len first count
range_seen first zero = refl
range_seen first (suc count) = ap (λ (ns : List ℕ). first ∷ ns) (range_seen (first + 1) count)

pub items_seen :
    (id : ℕ) (slots : Slots ModuleType) →
    map (λ (item : ℕ × ModuleType). item.1) (items_from id slots) ≡ filter_map (λ slot. slot) slots
items_seen id [] = refl
items_seen id (None ∷ slots) = items_seen (id + 1) slots
items_seen id (Some ty ∷ slots) = ap (λ (tys : List ModuleType). ty ∷ tys) (items_seen (id + 1) slots)
