-- More indices get slots, by which marked ones are told.
use Rattle.std.proofs.Common.{◌≡◌, ℕ, Bool, ◌+◌, ◌-◌, ◌<◌, ◌≤◌, List, ◌++◌, length, map, slice_get, Some, ◌⊎◌, inl, inr, ◌∙◌, refl, sym, ap, subst, length-append, arith}
use Rattle.std.specs.Prelude.{◌↔◌}
use Rattle.std.specs.List.{range_with_len}
use Rattle.std.proofs.lemmas.Bool.{cases_lt}
use Rattle.std.proofs.lemmas.List.{get_or_append_left, get_or-append-add}
use Rattle.std.proofs.lemmas.List.FromFn.{get_or-range_with_len, length-range_with_len}
use Rattle.walrus_ty.specs.declared.records.EntryAt.{EntryAt}
use Rattle.walrus_ty.specs.Definition.{Definition}
use Rattle.walrus_ty.specs.Groups.{Section}
use Rattle.walrus_ty.specs.Records.{entry_definition}
use Rattle.walrus_sections.specs.Section.{IndexSpace, index_space, NamesBelowEnds}
use Rattle.walrus_canonical.specs.EqualTypes.{IsMember, NamesOutside, AreEqual}
use Rattle.walrus_canonical.specs.Steps.Classes.{reading, slot_of, own_number, IsOfClass, HaveKeys, IsReadTo}
use Rattle.walrus_canonical.specs.Steps.KnownClasses.{place_of}
use Rattle.walrus_canonical.specs.Steps.Marks.{IsMarked}
use Rattle.walrus_canonical.proofs.Equality.EqualTypes.{groups_of, equal_back, equal_itself}
use Rattle.walrus_canonical.proofs.Equality.Members.{mate_to, named_outside}
use Rattle.walrus_canonical.proofs.Equality.Written.{said_anew}
use Rattle.walrus_canonical.proofs.Forms.NextGroups.{BeginsAt}

module _ (section : Section) (below : NamesBelowEnds (index_space section)) (marks : List Bool)
    (start end : ℕ) (slots added : List ℕ) (slot_count : ℕ) (firsts : List ℕ)
    (known : List (List EntryAt × ℕ))
    (h : IsReadTo (index_space section) marks start (reading slots slot_count firsts known))
    (inside : start ≤ (index_space section).count) (long : end ≡ start + length added)
    -- a group that begins before is before
    (whole : (i place k : ℕ) → i < start → IsMember (index_space section) i place k → k < start) where
  abbrev S : IndexSpace
  S = index_space section

  abbrev more : List ℕ
  more = slots ++ added

  pub old_slot : (x : ℕ) → x < start → slot_of more x ≡ slot_of slots x
  old_slot x low = get_or_append_left slots added 0 x (omega (arith, low, h.one_each))

  pub named_before : (i x : ℕ) → i < start → NamesOutside S i x → x < start
  named_before i x low o =
      let less = named_outside section i x below (omega (arith, low, inside)) o in omega (arith, less, low)

  pub class_kept :
      (f : ℕ) (es : List EntryAt) → IsOfClass S marks start slots f es → IsOfClass S marks end more f es
  class_kept f es c = record {
    head = c.head;
    low = omega (arith, c.low, long);
    marked = c.marked;
    member = c.member;
    slot = old_slot c.head c.low ∙ c.slot;
    records = said_anew S (own_number (length es)) (λ x y. y ≡ slot_of slots x) c.head
        (map entry_definition es) c.records (own_number (length es)) (λ x y. y ≡ slot_of more x)
        (λ p z. refl) (λ x y o is. is ∙ sym (old_slot x (named_before c.head x c.low o)));
    fits = λ x o. omega (arith, c.fits x o, old_slot x (named_before c.head x c.low o));
  }

  -- what holds of the marked indices that get slots now
  pub record AreNew (count : ℕ) (newer : List ℕ) : Type 0 where
    pub told :
        (i j : ℕ) → i < end → start ≤ j → j < end → IsMarked marks i → IsMarked marks j →
        (slot_of more i ≡ slot_of more j) ↔ AreEqual S S i j
    pub within : (i : ℕ) → start ≤ i → i < end → IsMarked marks i → slot_of more i < count
    pub row :
        (i place k : ℕ) → start ≤ i → i < end → IsMember S i 0 i → IsMarked marks i →
        IsMember S i place k → slot_of more k ≡ slot_of more i + place
    pub class_of :
        (i : ℕ) → start ≤ i → i < end → IsMember S i 0 i → IsMarked marks i → (c : ℕ)
        × (slice_get newer c ≡ Some (slot_of more i))

  pub read_more :
      (count : ℕ) (newer : List ℕ) (after : List (List EntryAt × ℕ)) → AreNew count newer →
      slot_count ≤ count → count ≤ end →
      ((c f : ℕ) → slice_get firsts c ≡ Some f → slice_get newer c ≡ Some f) → HaveKeys count newer after →
      ((es : List EntryAt) (c : ℕ) → place_of after es ≡ Some c → (place_of known es ≡ Some c)
      ⊎ ((f : ℕ) × (slice_get newer c ≡ Some f) × IsOfClass S marks end more f es)) →
      IsReadTo S marks end (reading more count newer after)
  read_more count newer after new grows few kept keys keyed = record {
    one_each = omega (arith, length-append slots added, h.one_each, long);
    few = few;
    told = λ i j hi hj mi mj. elim (cases_lt j start) [
      | inr over ↦ new.told i j hi over hj mi mj
      | inl low_j ↦ elim (cases_lt i start) [
        | inl low_i ↦ (let t = h.told i j low_i low_j mi mj in (
          λ e. t.0 (sym (old_slot i low_i) ∙ (e ∙ old_slot j low_j)),
          λ e. old_slot i low_i ∙ (t.1 e ∙ sym (old_slot j low_j)),
        ))
        | inr over ↦ (let t = new.told j i hj over hi mj mi in
            (λ e. equal_back S S j i (t.0 (sym e)), λ e. sym (t.1 (equal_back S S i j e))))
      ]
    ];
    within = λ i hi m. elim (cases_lt i start) [
      | inl low ↦ omega (arith, h.within i low m, old_slot i low, grows)
      | inr over ↦ new.within i over hi m
    ];
    row = λ i place k hi m own mem. elim (cases_lt i start) [
      | inl low ↦ old_slot k (whole i place k low mem)
          ∙ (h.row i place k low m own mem ∙ ap (λ (u : ℕ). u + place) (sym (old_slot i low)))
      | inr over ↦ new.row i place k over hi own m mem
    ];
    class_of = λ i hi m own. elim (cases_lt i start) [
      | inl low ↦ (let c = h.class_of i low m own in
          (c.0, kept c.0 (slot_of slots i) c.1 ∙ ap (λ (u : ℕ). Some u) (sym (old_slot i low))))
      | inr over ↦ new.class_of i over hi own m
    ];
    keys = keys;
    keyed = λ es c at. elim (keyed es c at) [
      | inl old ↦ (let k = h.keyed es c old in (k.0, kept c k.0 k.1, class_kept k.0 es k.2))
      | inr k ↦ k
    ];
  }

-- ---- the group at `start` gets the slots from `first` on

module _ (section : Section) (below : NamesBelowEnds (index_space section)) (marks : List Bool) (start : ℕ)
    (ds : List Definition) (b : BeginsAt (index_space section) start ds) (slots : List ℕ) (slot_count : ℕ)
    (firsts : List ℕ) (known : List (List EntryAt × ℕ))
    (h : IsReadTo (index_space section) marks start (reading slots slot_count firsts known))
    (whole : (i place k : ℕ) → i < start → IsMember (index_space section) i place k → k < start) (first : ℕ)
    (decides : (i t : ℕ) → i < start → IsMarked marks i → t < length ds →
    (slot_of slots i ≡ first + t) ↔ AreEqual (index_space section) (index_space section) i (start + t)) where
  abbrev N : IndexSpace
  N = index_space section

  abbrev added : List ℕ
  added = range_with_len first (length ds)

  abbrev grown : List ℕ
  grown = slots ++ added

  grown_long : start + length ds ≡ start + length added
  grown_long = omega (arith, length-range_with_len first (length ds))

  fits_in : start ≤ N.count
  fits_in = omega (arith, b.inside)

  pub was : (x : ℕ) → x < start → slot_of grown x ≡ slot_of slots x
  was = old_slot section below marks start (start + length ds) slots added slot_count firsts known h fits_in
      grown_long whole

  pub new_slot : (t : ℕ) → t < length ds → slot_of grown (start + t) ≡ first + t
  new_slot t low =
      ap (λ (u : ℕ). slot_of grown (u + t)) (sym h.one_each)
      ∙ (get_or-append-add slots added t 0 ∙ get_or-range_with_len first (length ds) t 0 low)

  -- the place of an index in the group
  at_place :
      (i : ℕ) → start ≤ i → i < start + length ds → (t : ℕ) × (t < length ds) × (start + t ≡ i)
      × (slot_of grown i ≡ first + t)
  at_place i over hi =
      let t = i - start in
      let low : t < length ds = omega (arith, over, hi) in
      let is : start + t ≡ i = omega (arith, over) in
      (t, low, is, ap (slot_of grown) (sym is) ∙ new_slot t low)

  -- types of one group are equal only at one place
  one_place : (t u : ℕ) → t < length ds → u < length ds → AreEqual N N (start + t) (start + u) → t ≡ u
  one_place t u ht hu e =
      let like = groups_of N N (start + t) (start + u) e in
      let at_t = mate_to N start t (start + t) like.own_place (start + t) (b.member t ht) like.first_own in
      let at_u = mate_to N start u (start + u) like.own_place (start + u) (b.member u hu) like.second_own in
      omega (arith, (b.only like.own_place (start + t) at_t).1, (b.only like.own_place (start + u) at_u).1)

  new_told :
      (i j : ℕ) → i < start + length ds → start ≤ j → j < start + length ds → IsMarked marks i →
      IsMarked marks j → (slot_of grown i ≡ slot_of grown j) ↔ AreEqual N N i j
  new_told i j hi over hj mi mj =
      let u = at_place j over hj in
      elim (cases_lt i start) [
        | inl low ↦
            let d = decides i u.0 low mi u.1 in (
              λ e. subst (λ (k : ℕ). AreEqual N N i k) u.2 (d.0 (sym (was i low) ∙ (e ∙ u.3))),
              λ e. was i low ∙ (d.1 (subst (λ (k : ℕ). AreEqual N N i k) (sym u.2) e) ∙ sym u.3),
            )
        | inr over_i ↦
            let t = at_place i over_i hi in (
              λ e. subst (λ (k : ℕ). AreEqual N N i k) (omega (arith, e, t.2, t.3, u.2, u.3))
                  (equal_itself section below i (omega (arith, hi, b.inside))),
              λ e. (let same = one_place t.0 u.0 t.1 u.1 (subst (λ (k : ℕ). AreEqual N N k (start + u.0))
                  (sym t.2) (subst (λ (k : ℕ). AreEqual N N i k) (sym u.2) e)) in
                  omega (arith, t.3, u.3, same)),
            )
      ]

  head_is : (i : ℕ) → start ≤ i → i < start + length ds → IsMember N i 0 i → i ≡ start + 0
  head_is i over hi own =
      let t = at_place i over hi in
      let m = subst (λ (u : ℕ). IsMember N start t.0 u) t.2 (b.member t.0 t.1) in
      (b.only 0 i (mate_to N start t.0 i 0 i m own)).1

  new_group :
      (count c : ℕ) (newer : List ℕ) → first + length ds ≤ count → slice_get newer c ≡ Some first →
      AreNew section below marks start (start + length ds) slots added slot_count firsts known h fits_in
      grown_long whole count newer
  new_group count c newer fits at = record {
    told = new_told;
    within = λ i over hi m. (let t = at_place i over hi in omega (arith, t.3, t.1, fits));
    row = λ i place k over hi own m mem. (
        let head = head_is i over hi own in
        let is : i ≡ start = omega (arith, head) in
        let at_k = b.only place k (subst (λ (u : ℕ). IsMember N u place k) is mem) in
        let slot_i = ap (slot_of grown) head ∙ new_slot 0 b.filled in
        omega (arith, slot_i, ap (slot_of grown) at_k.1 ∙ new_slot place at_k.0));
    class_of = λ i over hi own m. (
        let slot_i = ap (slot_of grown) (head_is i over hi own) ∙ new_slot 0 b.filled in
        (c, at ∙ ap (λ (u : ℕ). Some u) (omega (arith, slot_i))));
  }

  pub read_group :
      (count c : ℕ) (newer : List ℕ) (after : List (List EntryAt × ℕ)) → first + length ds ≤ count →
      slice_get newer c ≡ Some first → slot_count ≤ count → count ≤ start + length ds →
      ((c f : ℕ) → slice_get firsts c ≡ Some f → slice_get newer c ≡ Some f) → HaveKeys count newer after →
      ((es : List EntryAt) (c : ℕ) → place_of after es ≡ Some c → (place_of known es ≡ Some c)
      ⊎ ((f : ℕ) × (slice_get newer c ≡ Some f) × IsOfClass N marks (start + length ds) grown f es)) →
      IsReadTo N marks (start + length ds) (reading grown count newer after)
  read_group count c newer after fits at = read_more section below marks start (start + length ds) slots added
      slot_count firsts known h fits_in grown_long whole count newer after (new_group count c newer fits at)
