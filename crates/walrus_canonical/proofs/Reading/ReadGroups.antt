-- A reader reads one more group.
use Rattle.std.proofs.Common.{◌≡◌, ℕ, Bool, ◌+◌, ◌<◌, List, [], ◌∷◌, ◌++◌, length, map, slice_get, Some, inl, inr, ◌∙◌, refl, sym, ap, subst, arith}
use Rattle.std.specs.Prelude.{◌↔◌}
use Rattle.std.specs.List.{range_with_len}
use Rattle.std.proofs.lemmas.List.{length-map}
use Rattle.std.proofs.lemmas.Option.{same_Some, slice_get_within}
use Rattle.walrus_ty.proofs.Basics.{slice_get-left, slice_get-right}
use Rattle.walrus_ty.specs.declared.records.EntryAt.{EntryAt}
use Rattle.walrus_ty.specs.Definition.{Definition, rename}
use Rattle.walrus_ty.specs.Groups.{Section}
use Rattle.walrus_ty.specs.Records.{entry_definition}
use Rattle.walrus_sections.specs.Section.{IndexSpace, index_space, IsWellNamed}
use Rattle.walrus_canonical.specs.EqualTypes.{IsMember, IsInGroup, NamesOutside, AreEqual}
use Rattle.walrus_canonical.specs.Listing.{by_group, by_name}
use Rattle.walrus_canonical.specs.Steps.Classes.{reading, slot_of, own_number, AreToldBySlots, AreRecordsOf, IsOfClass, HaveKeys, IsReadTo}
use Rattle.walrus_canonical.specs.Steps.KnownClasses.{place_of}
use Rattle.walrus_canonical.specs.Steps.Marks.{IsMarked, MarkNeeds}
use Rattle.walrus_canonical.specs.Steps.Renamings.{renamed}
use Rattle.walrus_canonical.specs.Steps.Shown.{own_base}
use Rattle.walrus_canonical.proofs.Reading.ClassKeys.{NamesHaveSlots, equal_if_one_key, one_key_if_equal}
use Rattle.walrus_canonical.proofs.Equality.EqualTypes.{groups_of, equal_back, equal_over, equal_mates}
use Rattle.walrus_canonical.proofs.Equality.Members.{mate_from}
use Rattle.walrus_canonical.proofs.Equality.Written.{said_anew, own_written, as_many}
use Rattle.walrus_canonical.proofs.Forms.NextGroups.{BeginsAt}
use Rattle.walrus_canonical.proofs.Reading.RenamedKeys.{renamed_is_key, outside_low}
use Rattle.walrus_canonical.proofs.Reading.ToldGroups.{was, named_before, new_slot, read_group}
use Rattle.walrus_canonical.proofs.Reading.NewKeys.{IsNewKey, get_last, same_records, at_new, at_other, at_old}

module _ (section : Section) (roots : List ℕ) (well : IsWellNamed section) (marks : List Bool)
    (needs : MarkNeeds section roots marks) (start : ℕ) (ds : List Definition)
    (b : BeginsAt (index_space section) start ds) (slots : List ℕ) (slot_count : ℕ) (firsts : List ℕ)
    (known : List (List EntryAt × ℕ))
    (h : IsReadTo (index_space section) marks start (reading slots slot_count firsts known))
    (whole : (i place k : ℕ) → i < start → IsMember (index_space section) i place k → k < start)
    (marked : IsMarked marks start) where
  abbrev S : IndexSpace
  S = index_space section

  few_entries : start + length ds < 4294967296
  few_entries = omega (arith, b.inside, well.few)

  own_start : IsMember S start 0 start
  own_start = let e : start + 0 ≡ start = omega arith in
      subst (λ (u : ℕ). IsMember S start 0 u) e (b.member 0 b.filled)

  mark_of_mate : (i k : ℕ) → IsMarked marks i → IsInGroup S i k → IsMarked marks k
  mark_of_mate i k m g = (needs.needed k).1 (by_group i k ((needs.needed i).0 m) g)

  module _ (entries : List EntryAt)
      (is : map entry_definition entries ≡ map (rename (renamed start slots (own_base (length ds)))) ds) where
    size : length entries ≡ length ds
    size = sym (length-map entries entry_definition)
        ∙ (ap (λ (es : List Definition). length es) is
        ∙ length-map ds (rename (renamed start slots (own_base (length ds)))))

    base : ℕ
    base = own_base (length entries)

    pub records_now : AreRecordsOf S slots start entries
    records_now =
        rw (size, is) (renamed_is_key section well.below_ends start ds b slots h.one_each few_entries)

    outside_here : (x : ℕ) → NamesOutside S start x → x < start
    outside_here = outside_low section well.below_ends start ds b slots h.one_each few_entries

    -- what a marked group names outside of it has a slot
    have_slots :
        (i : ℕ) → IsMarked marks i → ((x : ℕ) → NamesOutside S i x → x < start) →
        NamesHaveSlots S marks slots (own_base (length entries)) i
    have_slots i m before = record {
      low = λ x o. omega (arith, before x o, h.one_each);
      marked = named;
      fits = λ x o. omega (arith, h.within x (before x o) (named x o), h.few, few_entries, size);
    }
      where
        named : (x : ℕ) → NamesOutside S i x → IsMarked marks x
        named x o = (needs.needed x).1 (by_name o.0 x (by_group i o.0 ((needs.needed i).0 m) o.1) o.2)

    names_here : NamesHaveSlots S marks slots (own_base (length entries)) start
    names_here = have_slots start marked outside_here

    names_there :
        (i : ℕ) → i < start → IsMarked marks i →
        NamesHaveSlots S marks slots (own_base (length entries)) i
    names_there i low m = have_slots i m (λ x o.
        named_before section well.below_ends marks start start slots [] slot_count firsts known h
        (omega (arith, b.inside)) (omega arith) whole i x low o)

    told_here : AreToldBySlots S marks (length slots) slots
    told_here = subst (λ (n : ℕ). AreToldBySlots S marks n slots) (sym h.one_each) h.told

    -- ---- these records are known

    module _ (first : ℕ) (k : IsOfClass S marks start slots first entries) where
      equal_heads : AreEqual S S k.head start
      equal_heads = equal_if_one_key S marks slots (own_base (length entries)) k.head start 0 k.member
          own_start told_here (names_there k.head k.low k.marked) names_here
          (map entry_definition entries) (map entry_definition entries) k.records records_now refl

      -- its types have the slots already
      known_decides :
          (i t : ℕ) → i < start → IsMarked marks i → t < length ds →
          (slot_of slots i ≡ first + t) ↔ AreEqual S S i (start + t)
      known_decides i t low m ht =
          let r = k.records.members t (omega (arith, ht, length-map entries entry_definition, size)) in
          let is_slot : slot_of slots r.0 ≡ first + t =
          h.row k.head t r.0 k.low k.marked k.member r.1 ∙ ap (λ (u : ℕ). u + t) k.slot in
          let same = equal_mates S S k.head start t r.0 (start + t) equal_heads r.1 (b.member t ht) in
          let d = h.told i r.0 low (whole k.head t r.0 k.low r.1) m
          (mark_of_mate k.head r.0 k.marked (t, r.1)) in (
            λ e. equal_over S S S i r.0 (start + t) (d.0 (e ∙ sym is_slot)) same,
            λ e. d.1 (equal_over S S S i (start + t) r.0 e (equal_back S S r.0 (start + t) same)) ∙ is_slot,
          )

      pub read_known :
          (class : ℕ) → place_of known entries ≡ Some class → slice_get firsts class ≡ Some first →
          IsReadTo S marks (start + length ds)
          (reading (slots ++ range_with_len first (length ds)) slot_count firsts known)
      read_known class at is_first =
          let fits = h.keys.fit entries class first at is_first in
          read_group section well.below_ends marks start ds b slots slot_count firsts known h whole first
          known_decides slot_count class firsts known (omega (arith, fits, size)) is_first (omega arith)
          (omega (arith, h.few)) (λ c f e. e) h.keys (λ es c e. inl e)

    -- ---- these records are new

    module _ (after : List (List EntryAt × ℕ)) (key : IsNewKey known after entries (length firsts)) where
      -- equal groups have as many members
      same_size :
          (first : ℕ) (es : List EntryAt) (k : IsOfClass S marks start slots first es) →
          AreEqual S S k.head start → length es ≡ length ds
      same_size first es k e =
          sym (length-map es entry_definition)
          ∙ as_many S S (own_number (length es)) (λ p. start + p) (λ x y. y ≡ slot_of slots x) (λ x y. y ≡ x)
          k.head start (groups_of S S k.head start e) (map entry_definition es) ds k.records
          (own_written S start ds b)

      not_known :
          (c first : ℕ) (es : List EntryAt) (k : IsOfClass S marks start slots first es) →
          place_of known es ≡ Some c → AreEqual S S k.head start → ⊥
      not_known c first es k at e =
          let as_long : length es ≡ length entries = omega (arith, same_size first es k e, size) in
          let records = rw as_long at k.records in
          let same = one_key_if_equal S marks slots (own_base (length entries)) k.head start 0
          k.member own_start told_here (names_there k.head k.low k.marked) names_here
          (map entry_definition es) (map entry_definition entries) records records_now e in
          let is = same_records es entries same in
          let none = key.fresh in
          let some : place_of known entries ≡ Some c = ap (place_of known) (sym is) ∙ at in absurd cc

      none_equal :
          (i t : ℕ) → i < start → IsMarked marks i → t < length ds → ¬ (AreEqual S S i (start + t))
      none_equal i t low m ht e =
          let like = groups_of S S i (start + t) e in
          let to_start : IsMember S (start + t) 0 start =
          mate_from S start t (start + t) 0 start (b.member t ht) own_start in
          let head = like.second_places start 0 to_start in
          let head_low = whole i 0 head.0 low head.1 in
          let head_marked = mark_of_mate i head.0 m (0, head.1) in
          let head_own = mate_from S i 0 head.0 0 head.0 head.1 head.1 in
          let head_equal : AreEqual S S head.0 start =
          equal_mates S S i (start + t) 0 head.0 start e head.1 to_start in
          let c = h.class_of head.0 head_low head_marked head_own in
          let es = h.keys.key_of c.0 (slot_of slots head.0) c.1 in
          let k = h.keyed es.0 c.0 es.1 in
          let one : k.0 ≡ slot_of slots head.0 =
          same_Some k.0 (slot_of slots head.0) (sym k.1 ∙ c.1) in
          let one_slot : slot_of slots k.2.head ≡ slot_of slots head.0 = k.2.slot ∙ one in
          let equal_to = (h.told k.2.head head.0 k.2.low head_low k.2.marked head_marked).0 one_slot in
          not_known c.0 k.0 es.0 k.2 es.1 (equal_over S S S k.2.head head.0 start equal_to head_equal)

      new_decides :
          (i t : ℕ) → i < start → IsMarked marks i → t < length ds →
          (slot_of slots i ≡ slot_count + t) ↔ AreEqual S S i (start + t)
      new_decides i t low m ht = (
        λ e. absurd (omega (arith, h.within i low m, e)),
        λ e. absurd (none_equal i t low m ht e),
      )

      abbrev grown : List ℕ
      grown = slots ++ range_with_len slot_count (length ds)

      abbrev firsts_now : List ℕ
      firsts_now = firsts ++ slot_count ∷ []

      outside_was : (x : ℕ) → NamesOutside S start x → slot_of grown x ≡ slot_of slots x
      outside_was x o = was section well.below_ends marks start ds b slots slot_count firsts known h whole
          slot_count new_decides x (outside_here x o)

      new_class : IsOfClass S marks (start + length ds) grown slot_count entries
      new_class = record {
        head = start;
        low = omega (arith, b.filled);
        marked = marked;
        member = own_start;
        slot = (
            let e : start ≡ start + 0 = omega arith in
            let z = ap (slot_of grown) e
            ∙ new_slot section well.below_ends marks start ds b slots slot_count firsts known h whole
            slot_count new_decides 0 b.filled in omega (arith, z));
        records = said_anew S (own_number (length entries)) (λ x y. y ≡ slot_of slots x) start
            (map entry_definition entries) records_now (own_number (length entries))
            (λ x y. y ≡ slot_of grown x) (λ p z. refl) (λ x y o e. e ∙ sym (outside_was x o));
        fits = λ x o. omega (arith, names_here.fits x o, outside_was x o);
      }

      first_is : slice_get firsts_now (length firsts) ≡ Some slot_count
      first_is = ap (slice_get firsts_now) (let e : length firsts ≡ length firsts + 0 = omega arith in e)
          ∙ slice_get-right firsts (slot_count ∷ []) 0 slot_count refl

      first_only :
          (c first : ℕ) → c ≡ length firsts → slice_get firsts_now c ≡ Some first → first ≡ slot_count
      first_only c first e at = same_Some first slot_count (sym at ∙ (ap (slice_get firsts_now) e ∙ first_is))

      keys_now : HaveKeys (slot_count + length ds) firsts_now after
      keys_now = record {
        key_of = λ c first at. elim (get_last firsts slot_count c first at) [
          | inl old ↦ (let es = h.keys.key_of c first old in
              (es.0, at_old known after entries es.0 (length firsts) c key es.1))
          | inr new ↦ (
            entries,
            at_new known after entries (length firsts) key ∙ ap (λ (u : ℕ). Some u) (sym new.0),
          )
        ];
        fit = λ es c first at at_first. elim (at_other known after entries es (length firsts) c key at) [
          | inl new ↦ (
              let z = first_only c first new.1 at_first in
              let long = ap (λ (xs : List EntryAt). length xs) new.0 in omega (arith, z, size, long))
          | inr old ↦ (
              let k = h.keyed es c old in
              let left = slice_get-left firsts (slot_count ∷ []) c k.0 k.1 in
              let one : k.0 ≡ first = same_Some k.0 first (sym left ∙ at_first) in
              omega (arith, one, h.keys.fit es c k.0 old k.1))
        ];
        apart = λ p c first next es less at_p at_c at. elim (get_last firsts slot_count p first at_p) [
          | inr last ↦ absurd (elim (get_last firsts slot_count c next at_c) [
            | inl old ↦ omega (arith, slice_get_within firsts c next old, last.0, less)
            | inr new ↦ omega (arith, last.0, new.0, less)
          ])
          | inl old_p ↦ elim (at_other known after entries es (length firsts) p key at) [
            | inl new ↦ absurd (omega (arith, slice_get_within firsts p first old_p, new.1))
            | inr old ↦ elim (get_last firsts slot_count c next at_c) [
              | inl old_c ↦ h.keys.apart p c first next es less old_p old_c old
              | inr new ↦ omega (arith, h.keys.fit es p first old old_p, new.1)
            ]
          ]
        ];
      }

      pub read_new :
          IsReadTo S marks (start + length ds) (reading grown (slot_count + length ds) firsts_now after)
      read_new = read_group section well.below_ends marks start ds b slots slot_count firsts known h whole
          slot_count new_decides (slot_count + length ds) (length firsts) firsts_now after (omega arith)
          first_is (omega arith) (omega (arith, h.few)) (λ c f e. slice_get-left firsts (slot_count ∷ []) c f e)
          keys_now (λ es c at. elim (at_other known after entries es (length firsts) c key at) [
            | inr old ↦ inl old
            | inl new ↦ inr (
              slot_count,
              ap (slice_get firsts_now) new.1 ∙ first_is,
              subst (λ (xs : List EntryAt). IsOfClass S marks (start + length ds) grown slot_count xs) new.0
                  new_class,
            )
          ])
