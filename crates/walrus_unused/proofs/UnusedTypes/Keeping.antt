-- A table that loses its unused types keeps the others.
use Rattle.std.proofs.Common.{◌≡◌, ◌↔◌, ℕ, Bool, true, false, List, refl, sym, ap, subst, ◌∙◌, Some, None, Option, IsSome, Contains, All, nat_eq}
use Rattle.std.specs.List.{list_any}
use Rattle.std.proofs.lemmas.List.Elements.{All-contains}
use Rattle.walrus_ty.specs.Types.{ModuleType}
use Rattle.walrus_ty.specs.SameTypes.{type_eq}
use Rattle.walrus_types.specs.TypesById.{live_type, IsLive, passes}
use Rattle.walrus_types.specs.Table.{Table, IsTable, rec_group_at, DeletesAll}
use Rattle.walrus_types.proofs.Tables.Places.{any_has, has_any}
use Rattle.walrus_unused.specs.NeededTypes.{IsNeeded, root, named, grouped, AreUnused, Keeps}
use Rattle.walrus_unused.proofs.UnusedTypes.Elements.{contains_from_get, get_from_contains}
use Rattle.walrus_unused.proofs.UnusedTypes.Deleting.{leaves, group_stays, group_goes}
use Rattle.walrus_unused.proofs.UnusedTypes.Found.{found_parts, found_left, found_still}

module _ (old new : Table) (roots ids : List ℕ) (is : IsTable old) (live : All (IsLive old.types.slots) roots)
    (unused : AreUnused old roots ids) (all : DeletesAll old ids new) where
  needed_live : (id : ℕ) → IsNeeded old roots id → IsLive old.types.slots id
  needed_live id (root x h) = All-contains (IsLive old.types.slots) roots x live h
  needed_live id (named user x u n l) = l
  needed_live id (grouped mate x m (k, u, v, here, there)) = is.live k v x there

  needed_stays : (id : ℕ) → IsNeeded old roots id → Contains ids id → ⊥
  needed_stays id n c = (unused.unused id c).1 n

  alive : (o : Option ModuleType) → o ≡ None → IsSome o → ⊥
  alive o e h = cc

  was_live : (id : ℕ) → IsLive new.types.slots id → IsLive old.types.slots id × (Contains ids id → ⊥)
  was_live id h =
      let l = leaves old new ids all in
      let none : Contains ids id → ⊥ = λ c. alive (live_type new.types.slots id) (l.dies id c) h in
      (subst (λ (o : Option ModuleType). IsSome o) (l.stays id none) h, none)

  pub live_needed : (id : ℕ) → IsLive new.types.slots id ↔ IsNeeded old roots id
  live_needed id = (
    λ h. (let w = was_live id h in unused.others id w.0 w.1),
    λ n. subst (λ (o : Option ModuleType). IsSome o)
        (sym ((leaves old new ids all).stays id (needed_stays id n))) (needed_live id n),
  )

  passes_live : (q : ModuleType) (o : Option ModuleType) → passes (type_eq q) o ≡ true → IsSome o
  passes_live q None h = absurd (cc)
  passes_live q (Some ty) h = refl

  -- whether an id is among those that go
  goes_or_needed : (id : ℕ) → IsLive old.types.slots id → (IsNeeded old roots id → ⊥) → Contains ids id
  goes_or_needed id l none = by_test (list_any (nat_eq id) ids) refl
    where
      by_test : (b : Bool) → b ≡ list_any (nat_eq id) ids → Contains ids id
      by_test true e = let m = any_has ids id (sym e) in contains_from_get ids m.0 id m.1
      by_test false e = absurd (none (unused.others id l (λ c.
          (let at = get_from_contains ids id c in differ (sym (has_any ids at.0 id at.1) ∙ sym e)))))
        where
          differ : true ≡ false → ⊥
          differ h = cc

  pub needed_kept : Keeps (IsNeeded old roots) old new
  needed_kept = record {
    types = λ id n. (leaves old new ids all).stays id (needed_stays id n);
    next = (leaves old new ids all).next;
    found = λ q id. (
      λ h. (let f = found_left old new ids all q id h in (
        f.0,
        unused.others id (passes_live q (live_type old.types.slots id)
            (found_parts old.types q id f.0).1) f.1,
      )),
      λ f. found_still old new ids all q id f.0 (needed_stays id f.1),
    );
    count = (leaves old new ids all).count;
    groups = λ k u id m n. (leaves old new ids all).group k
        ∙ group_stays ids (rec_group_at old.groups k) (λ x c t.
        (let at = get_from_contains (rec_group_at old.groups k).types x t in
        needed_stays x (grouped id x n (k, u, at.0, m, at.1)) c));
    emptied = λ k none. ap (λ g. g.types) ((leaves old new ids all).group k)
        ∙ group_goes ids (rec_group_at old.groups k) (λ x t.
        (let at = get_from_contains (rec_group_at old.groups k).types x t in
        goes_or_needed x (is.live k at.0 x at.1) (λ n. none at.0 x at.1 n)));
  }
