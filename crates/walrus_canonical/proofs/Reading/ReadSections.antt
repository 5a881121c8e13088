-- A section is read group by group into its classes.
use Rattle.std.proofs.Common.{◌≡◌, ℕ, Bool, ◌+◌, List, [], ◌∷◌, ◌++◌, length, map, slice_get, Some, refl, sym, ap, subst, ◌∙◌, append_assoc, arith}
use Rattle.std.proofs.lemmas.List.{append-nil, map-append}
use Rattle.std.proofs.lemmas.Option.{same_Some}
use Rattle.walrus_ty.specs.declared.records.EntryAt.{EntryAt}
use Rattle.walrus_ty.specs.declared.records.GroupAt.{GroupAt}
use Rattle.walrus_ty.specs.Groups.{Section}
use Rattle.walrus_ty.specs.Records.{group_of, section_of}
use Rattle.walrus_sections.specs.FirstError.{definitions_of}
use Rattle.walrus_sections.specs.Section.{IndexSpace, index_space, IsWellNamed}
use Rattle.walrus_canonical.specs.declared.classes.Class.{Class}
use Rattle.walrus_canonical.specs.declared.classes.Reader.{Reader}
use Rattle.walrus_canonical.specs.EqualTypes.{IsMember}
use Rattle.walrus_canonical.specs.Steps.Classes.{Reading, reading, reading_of, slot_of, IsReadTo, IsOfClass, AreClasses, HasRead, ReadsGroup, StandsAt}
use Rattle.walrus_canonical.specs.Steps.KnownClasses.{place_of}
use Rattle.walrus_canonical.specs.Steps.Marks.{IsMarked, MarkNeeds}
use Rattle.walrus_canonical.proofs.Equality.Members.{member_within}
use Rattle.walrus_canonical.proofs.Reading.NeededGroups.{class_at, first_at, same_reading}
use Rattle.walrus_canonical.proofs.Needs.NeedsMarked.{marked_within}
use Rattle.walrus_canonical.proofs.Needs.TurnsBack.{one_more_group}

-- ---- the loop

-- the groups but for the ones that are left were read
pub record HasReadBut (given left : List GroupAt) (marks : List Bool) (reader : Reader) : Type 0 where
  pub before : List GroupAt
  pub parts : given ≡ before ++ left
  pub read :
      (roots : List ℕ) → IsWellNamed (section_of given) → MarkNeeds (section_of given) roots marks →
      HasRead (index_space (section_of given)) marks reader
      × (length reader.slots.items ≡ (index_space (section_of before)).count)

pub nothing_read :
    (given left : List GroupAt) (marks : List Bool) (reader : Reader) → given ≡ left →
    reader.slots.items ≡ [] → ((s : IndexSpace) (bs : List Bool) → HasRead s bs reader) →
    HasReadBut given left marks reader
nothing_read given left marks reader all none read = record {
  before = [];
  parts = all;
  read = λ roots well needs. (
    read (index_space (section_of given)) marks,
    ap (λ (xs : List ℕ). length xs) none,
  );
}

pub one_more_read :
    (given left rest : List GroupAt) (marks : List Bool) (old new : Reader) (g : GroupAt) →
    left ≡ g ∷ rest → HasReadBut given left marks old → ReadsGroup old new marks (group_of g) →
    HasReadBut given rest marks new
one_more_read given left rest marks old new g next h reads = record {
  before = h.before ++ g ∷ [];
  parts = whole ∙ sym (append_assoc h.before (g ∷ []) rest);
  read = λ roots well needs. (
      let was = h.read roots well needs in
      let pre = section_of h.before in
      let stands : StandsAt (section_of given) (length old.slots.items) (group_of g) = record {
        before = pre;
        behind = section_of rest;
        split = ap section_of whole ∙ map-append group_of h.before (g ∷ rest);
        count = was.1;
      } in
      let now = reads (section_of given) roots well needs stands was.0 in (
        now.0,
        now.1 ∙ (ap (λ (n : ℕ). n + length (definitions_of (group_of g))) was.1
            ∙ (sym (one_more_group pre (group_of g))
            ∙ ap (λ (s : Section). (index_space s).count) (sym (map-append group_of h.before (g ∷ []))))),
      ));
}
  where
    whole : given ≡ h.before ++ g ∷ rest
    whole = h.parts ∙ ap (λ (gs : List GroupAt). h.before ++ gs) next

-- ---- what was read, once each class has its records

module _ (section : Section) (roots : List ℕ) (marks : List Bool)
    (needs : MarkNeeds section roots marks) (slots : List ℕ) (slot_count : ℕ)
    (known : List (List EntryAt × ℕ)) (classes : List Class)
    (h : IsReadTo (index_space section) marks (index_space section).count
    (reading slots slot_count (map (λ (c : Class). c.first) classes) known))
    (records : (c : ℕ) (class : Class) → slice_get classes c ≡ Some class →
    ((entries : List EntryAt) × (place_of known entries ≡ Some c)) →
    place_of known class.entries ≡ Some c) where
  abbrev S : IndexSpace
  S = index_space section

  abbrev firsts : List ℕ
  firsts = map (λ (c : Class). c.first) classes

  key_is :
      (c : ℕ) (class : Class) → slice_get classes c ≡ Some class → place_of known class.entries ≡ Some c
  key_is c class e = records c class e (h.keys.key_of c class.first (first_at classes c class e))

  class_of :
      (i : ℕ) → IsMarked marks i → IsMember S i 0 i → (c : ℕ) × (class : Class)
      × (slice_get classes c ≡ Some class) × (class.first ≡ slot_of slots i)
  class_of i m own =
      let c = h.class_of i (member_within section i 0 i own) m own in
      let k = class_at classes c.0 (slot_of slots i) c.1 in (c.0, k.0, k.1, k.2)

  of_class :
      (c : ℕ) (class : Class) → slice_get classes c ≡ Some class →
      IsOfClass S marks S.count slots class.first class.entries
  of_class c class e =
      let k = h.keyed class.entries c (key_is c class e) in
      let same : k.0 ≡ class.first = same_Some k.0 class.first (sym k.1 ∙ first_at classes c class e) in
      subst (λ (f : ℕ). IsOfClass S marks S.count slots f class.entries) same k.2

  pub are_classes : AreClasses section marks slots slot_count classes
  are_classes = record {
    one_each = h.one_each;
    few = h.few;
    told = h.told;
    within = λ i m. h.within i (
        omega (arith, marked_within marks i m, needs.one_each)) m;
    row = λ i place k m own mem. h.row i place k (member_within section i 0 i own) m own mem;
    class_of = class_of;
    of_class = of_class;
    fit = λ c class e. h.keys.fit class.entries c class.first (key_is c class e) (first_at classes c class e);
    apart = λ b c class other less at_b at_c. h.keys.apart b c class.first other.first class.entries less
        (first_at classes b class at_b) (first_at classes c other at_c) (key_is b class at_b);
  }

pub all_read :
    (given left : List GroupAt) (marks : List Bool) (reader : Reader) (roots : List ℕ) →
    IsWellNamed (section_of given) → MarkNeeds (section_of given) roots marks → left ≡ [] →
    HasReadBut given left marks reader → (slots : List ℕ) (slot_count : ℕ) (classes : List Class) →
    slots ≡ reader.slots.items → slot_count ≡ reader.slot_count →
    map (λ (c : Class). c.first) classes ≡ map (λ (c : Class). c.first) reader.classes.items →
    ((c : ℕ) (class : Class) → slice_get classes c ≡ Some class →
    ((entries : List EntryAt) × (place_of reader.known.entries entries ≡ Some c)) →
    place_of reader.known.entries class.entries ≡ Some c) →
    AreClasses (section_of given) marks slots slot_count classes
all_read given left marks reader roots well needs none h slots slot_count classes e_slots e_count e_firsts
    records =
    let section = section_of given in
    let was = h.read roots well needs in
    let whole : given ≡ h.before = h.parts
    ∙ (ap (λ (gs : List GroupAt). h.before ++ gs) none ∙ append-nil h.before) in
    let long : length reader.slots.items ≡ (index_space section).count =
    was.1 ∙ ap (λ (gs : List GroupAt). (index_space (section_of gs)).count) (sym whole) in
    let same = same_reading (reading_of reader)
    (reading slots slot_count (map (λ (c : Class). c.first) classes) reader.known.entries) (sym e_slots)
    (sym e_count) (sym e_firsts) refl in
    are_classes section roots marks needs slots slot_count reader.known.entries classes
    (subst (λ (r : Reading). IsReadTo (index_space section) marks (index_space section).count r) same
    (subst (λ (n : ℕ). IsReadTo (index_space section) marks n (reading_of reader)) long was.0)) records
