-- Lists with one more item, and maps with one more key.
use Rattle.std.proofs.Common.{◌≡◌, ℕ, zero, suc, Bool, true, false, ◌&&◌, List, [], ◌∷◌, ◌++◌, length, map, slice_get, Some, None, ◌⊎◌, inl, inr, ◌∙◌, refl, sym, ap, arith}
use Rattle.std.specs.Prelude.{if◌then◌else◌}
use Rattle.std.proofs.lemmas.Option.{same_Some}
use Rattle.walrus_ty.proofs.Equality.Contents.{same_entry}
use Rattle.walrus_ty.proofs.Equality.Records.{pointwise_exact, entry_exact, entry_itself}
use Rattle.walrus_ty.specs.contracts.records.EntryAtPartialEq.TheImpl as equality
use Rattle.walrus_ty.specs.declared.records.EntryAt.{EntryAt}
use Rattle.walrus_ty.specs.Records.{entry_definition}
use Rattle.walrus_canonical.specs.Steps.KnownClasses.{are_same, place_of}

pub get_last :
    (xs : List ℕ) (y c f : ℕ) → slice_get (xs ++ y ∷ []) c ≡ Some f →
    (slice_get xs c ≡ Some f) ⊎ ((c ≡ length xs) × (f ≡ y))
get_last [] y zero f e = inr (refl, sym (same_Some y f e))
get_last [] y (suc c) f e = absurd cc
get_last (x ∷ xs) y zero f e = inl e
get_last (x ∷ xs) y (suc c) f e = elim (get_last xs y c f e) [
  | inl old ↦ inl old
  | inr new ↦ inr (omega (arith, new.0), new.1)
]

pub same_records : (es fs : List EntryAt) → map entry_definition es ≡ map entry_definition fs → es ≡ fs
same_records [] [] e = refl
same_records [] (f ∷ fs) e = absurd cc
same_records (x ∷ es) [] e = absurd cc
same_records (x ∷ es) (f ∷ fs) e =
    let first : entry_definition x ≡ entry_definition f = cc in
    let rest : map entry_definition es ≡ map entry_definition fs = cc in
    let head = same_entry x f first in
    let tail = same_records es fs rest in cc

-- where the map has one more key
pub record IsNewKey (known after : List (List EntryAt × ℕ)) (entries : List EntryAt) (next : ℕ) : Type 0 where
  pub fresh : place_of known entries ≡ None
  pub places :
      (other : List EntryAt) → place_of after other ≡
      (if are_same entries other then Some next else place_of known other)

same_itself : (es : List EntryAt) → are_same es es ≡ true
same_itself [] = refl
same_itself (e ∷ es) = ap (λ t. t && are_same es es) (entry_itself e) ∙ same_itself es

pub at_new :
    (known after : List (List EntryAt × ℕ)) (entries : List EntryAt) (next : ℕ) →
    IsNewKey known after entries next → place_of after entries ≡ Some next
at_new known after entries next k = k.places entries
    ∙ ap (λ (t : Bool). if t then Some next else place_of known entries)
    (same_itself entries)

pub at_other :
    (known after : List (List EntryAt × ℕ)) (entries other : List EntryAt) (next c : ℕ) →
    IsNewKey known after entries next → place_of after other ≡ Some c →
    ((entries ≡ other) × (c ≡ next)) ⊎ (place_of known other ≡ Some c)
at_other known after entries other next c k at =
    go (are_same entries other) refl (sym (k.places other) ∙ at)
  where
    go : (t : Bool) → are_same entries other ≡ t →
        (if t then Some next else place_of known other) ≡ Some c →
        ((entries ≡ other) × (c ≡ next)) ⊎ (place_of known other ≡ Some c)
    go true e is =
        inl (pointwise_exact (equality.ghosts).eq entry_exact entries other e, sym (same_Some next c is))
    go false e is = inr is

pub at_old :
    (known after : List (List EntryAt × ℕ)) (entries other : List EntryAt) (next c : ℕ) →
    IsNewKey known after entries next → place_of known other ≡ Some c → place_of after other ≡ Some c
at_old known after entries other next c k at = k.places other ∙ go (are_same entries other) refl
  where
    go : (t : Bool) → are_same entries other ≡ t →
        (if t then Some next else place_of known other) ≡ Some c
    go true e =
        let same = pointwise_exact (equality.ghosts).eq entry_exact entries other e in
        let none = k.fresh in
        let some : place_of known entries ≡ Some c = ap (place_of known) same ∙ at in absurd cc
    go false e = at
