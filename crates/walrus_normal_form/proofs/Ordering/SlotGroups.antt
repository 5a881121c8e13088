-- What the tests of one group say of the definitions at its slots.
use Rattle.std.proofs.Common.{◌≡◌, ℕ, zero, suc, List, [], ◌∷◌, map, refl, sym, ap, subst, ◌∙◌, Some, Bool, true, false, get_or, eqb-true, eq-eqb}
use Rattle.std.specs.List.{list_all, slice_get}
use Rattle.std.specs.Option.{is_some}
use Rattle.std.proofs.lemmas.List.{get_or_default}
use Rattle.std.proofs.lemmas.List.Sums.{AllPass-from_list_all, list_all-from_AllPass}
use Rattle.walrus_ty.specs.declared.records.EntryAt.{EntryAt}
use Rattle.walrus_ty.specs.declared.records.GroupAt.{GroupAt}
use Rattle.walrus_ty.specs.declared.records.GroupAt.TheVariants as group
use Rattle.walrus_ty.specs.Definition.{Definition, Names, names_of}
use Rattle.walrus_ty.specs.Records.{entry_definition, group_of}
use Rattle.walrus_ty.proofs.Basics.{some_inj}
use Rattle.walrus_sections.specs.FirstError.{definitions_of}
use Rattle.walrus_normal_form.specs.Steps.PendingGroups.{head, is_free_of, is_own}
use Rattle.walrus_normal_form.specs.Steps.ReadSections.{slots_of}

-- lists that begin alike

first_same : (d e : Definition) (ds es : List Definition) → d ∷ ds ≡ e ∷ es → d ≡ e
first_same d e ds es h = some_inj (ap (λ (xs : List Definition). slice_get xs 0) h)

-- all names are the slot, as a test and as a fact

own_names :
    (own : ℕ) (d : Definition) → list_all (is_own own) (names_of d) ≡ true →
    (k : ℕ) → Names d k → k ≡ own
own_names own d test k n = eqb-true k own (subst (λ (x : ℕ). is_own own x ≡ true) n.2
    (AllPass-from_list_all (is_own own) (names_of d) test n.0 k n.1))

from_own_names :
    (own : ℕ) (d : Definition) → ((k : ℕ) → Names d k → k ≡ own) →
    list_all (is_own own) (names_of d) ≡ true
from_own_names own d only = list_all-from_AllPass (is_own own) (names_of d) (λ i e below.
    eq-eqb (get_or (names_of d) i e) own
    (only (get_or (names_of d) i e) (i, below, get_or_default (names_of d) i _ e below)))

-- a group whose first slot is this one, where `definition` has what its slots hold
module _ (definition : ℕ → Definition) (first : ℕ) (g : GroupAt) where
  abbrev ids : List ℕ
  ids = (slots_of first (group_of g)).ids

  abbrev explicit : Bool
  explicit = (slots_of first (group_of g)).is_explicit

  abbrev Holds : Type 0
  Holds = definitions_of (group_of g) ≡ map definition ids

-- what is known of a slot of a free group
pub record IsFreeSlot (definition : ℕ → Definition) (first : ℕ) (g : GroupAt) (i : ℕ) : Type 0 where
  pub implicit : explicit definition first g ≡ false
  pub lone : i ≡ first
  pub own : (k : ℕ) → Names (definition i) k → k ≡ i

pub free_slot :
    (definition : ℕ → Definition) (first : ℕ) (g : GroupAt) → Holds definition first g →
    is_free_of first g ≡ true → (u i : ℕ) → slice_get (ids definition first g) u ≡ Some i →
    IsFreeSlot definition first g i
free_slot definition first (group.Single e) holds test zero i at =
    let same : i ≡ first = sym (some_inj at) in
    let is : entry_definition e ≡ definition i = first_same _ _ [] [] holds ∙ ap definition (sym same) in
    record {
      implicit = refl;
      lone = same;
      own = λ k n. own_names first (entry_definition e) test k
          (subst (λ (d : Definition). Names d k) (sym is) n) ∙ sym same;
    }
free_slot definition first (group.Single e) holds test (suc u) i at = cc
free_slot definition first (group.Rec []) holds test u i at = cc
free_slot definition first (group.Rec (e ∷ es)) holds test u i at = cc

pub from_free_slots :
    (definition : ℕ → Definition) (first : ℕ) (g : GroupAt) → Holds definition first g →
    ((u i : ℕ) → slice_get (ids definition first g) u ≡ Some i →
    (explicit definition first g ≡ false) × ((k : ℕ) → Names (definition i) k → k ≡ i)) →
    is_free_of first g ≡ true
from_free_slots definition first (group.Single e) holds each =
    let is : entry_definition e ≡ definition first = first_same _ _ [] [] holds in
    from_own_names first (entry_definition e) (λ k n.
    (each 0 first refl).1 k (subst (λ (d : Definition). Names d k) is n))
from_free_slots definition first (group.Rec []) holds each = refl
from_free_slots definition first (group.Rec (e ∷ es)) holds each =
    let k : true ≡ false = (each 0 first refl).0 in cc

-- the first record is what the first slot holds
pub head_slot :
    (definition : ℕ → Definition) (first : ℕ) (g : GroupAt) → Holds definition first g →
    (x : EntryAt) → head g ≡ Some x →
    (slice_get (ids definition first g) 0 ≡ Some first) × (entry_definition x ≡ definition first)
head_slot definition first (group.Single e) holds x at =
    (refl, ap entry_definition (sym (some_inj at)) ∙ first_same _ _ [] [] holds)
head_slot definition first (group.Rec []) holds x at = cc
head_slot definition first (group.Rec (e ∷ es)) holds x at =
    (refl, ap entry_definition (sym (some_inj at)) ∙ first_same _ _ _ _ holds)

-- a group with a slot has a first record
pub has_head :
    (definition : ℕ → Definition) (first : ℕ) (g : GroupAt) (u i : ℕ) →
    slice_get (ids definition first g) u ≡ Some i → is_some (head g) ≡ true
has_head definition first (group.Single e) u i at = refl
has_head definition first (group.Rec []) u i at = cc
has_head definition first (group.Rec (e ∷ es)) u i at = refl
