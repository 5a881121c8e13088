-- A section as far as it was read, and one more group without error: what the reader has then.
use Rattle.std.proofs.Common.{◌≡◌, ℕ, ◌<◌, List, [], ◌∷◌, ◌++◌, length, map, refl, sym, ap, subst, ◌∙◌, Some, None, Bool, true, false, cond, inl, inr}
use Rattle.std.specs.List.{slice_get, range_with_len}
use Rattle.std.proofs.lemmas.List.{map-append}
use Rattle.walrus_ty.specs.contracts.records.EntryAtPartialEq.TheImpl as equality
use Rattle.walrus_ty.specs.Definition.{Definition, rename}
use Rattle.walrus_ty.specs.Groups.{Section, Single, Rec}
use Rattle.walrus_ty.specs.Records.{entry_definition}
use Rattle.walrus_ty.specs.declared.records.EntryAt.{EntryAt}
use Rattle.walrus_ty.specs.declared.records.GroupAt.TheVariants as record_of
use Rattle.walrus_ty.proofs.Basics.{some_inj}
use Rattle.walrus_ty.proofs.Equality.Contents.{same_entry}
use Rattle.walrus_ty.proofs.Equality.Records.{entry_exact, entry_itself}
use Rattle.walrus_sections.specs.FirstError.{group_error}
use Rattle.walrus_sections.specs.NormalForm.{image}
use Rattle.walrus_sections.specs.Section.{IndexSpace, index_space, IsSingle}
use Rattle.walrus_sections.specs.SlotMap.{read_definition}
use Rattle.walrus_normal_form.specs.declared.slot_group.SlotGroup.{SlotGroup}
use Rattle.walrus_normal_form.specs.Steps.ReadSections.{IsReadAs}
use Rattle.walrus_normal_form.specs.Steps.SectionReaders.{IsReadSoFar, IsLoneAt, IsRecAt, place_of}
use Rattle.walrus_normal_form.proofs.Reading.NextGroups.{lone_shared, lone_new, rec_new}
use Rattle.walrus_normal_form.proofs.Reading.Places.{place-stays, last-place, place-before-or-last, same-at-place, same-length, none-is-not-some}
use Rattle.walrus_normal_form.proofs.Reading.ReadGroups.{lone_slot, lone_there}

abbrev eq : EntryAt → EntryAt → Bool
eq = (equality.ghosts).eq

-- the map after it was asked for a record: it has this place for it, and what it had for the others
abbrev pub HasPlace : List (EntryAt × ℕ) → List (EntryAt × ℕ) → EntryAt → ℕ → Type 0
HasPlace old new entry place =
    (other : EntryAt) → place_of new other ≡ cond (eq entry other) (Some place) (place_of old other)

-- where the map had that place already, nothing changes
place_stays :
    (old new : List (EntryAt × ℕ)) (entry : EntryAt) (place : ℕ) → HasPlace old new entry place →
    place_of old entry ≡ Some place → (other : EntryAt) → place_of new other ≡ place_of old other
place_stays old new entry place has found other = by_test (eq entry other) refl
  where
    by_test : (b : Bool) → b ≡ eq entry other → place_of new other ≡ place_of old other
    by_test true e =
        let same : entry ≡ other = entry_exact entry other (sym e) in
        has other ∙ (ap (λ (b : Bool). cond b (Some place) (place_of old other)) (sym e)
        ∙ (sym found ∙ ap (place_of old) same))
    by_test false e = has other ∙ ap (λ (b : Bool). cond b (Some place) (place_of old other)) (sym e)

module _ (s : Section) (r : List ℕ) (groups : List SlotGroup) (lone : List (EntryAt × ℕ))
    (is : IsReadSoFar s r groups lone) where
  abbrev n : IndexSpace
  n = index_space s

  many : length groups ≡ length is.whole
  many = same-length (λ (g : SlotGroup). g.first) groups is.whole is.firsts

  module _ (d : Definition) (fine : group_error n.count (d ∷ []) ≡ None) (entry : EntryAt)
      (renamed : entry_definition entry ≡ rename (image (r ++ n.count ∷ [])) d)
      (after : List (EntryAt × ℕ)) where
    -- an equal record was there
    pub found_next :
        (place : ℕ) (g : SlotGroup) → place_of lone entry ≡ Some place → slice_get groups place ≡ Some g →
        HasPlace lone after entry place →
        IsReadSoFar (s ++ Single d ∷ []) (r ++ g.first ∷ []) groups after
    found_next place g found there has =
        let at = (is.lone_places entry place).0 found in
        let slot = lone_slot s r is.whole is.read place at.0 entry at.1 in
        let first : at.0 ≡ g.first =
        sym (same-at-place (λ (g : SlotGroup). g.first) groups is.whole place g
        (record { first = at.0; group = record_of.Single entry }) is.firsts there at.1) in
        let same = place_stays lone after entry place has found in
        record {
          whole = is.whole;
          read = subst (λ (j : ℕ). IsReadAs (s ++ Single d ∷ []) (r ++ j ∷ []) is.whole) first
              (lone_shared s r is.whole is.read d fine at.0 slot.below slot.single slot.live
              (slot.same ∙ renamed));
          firsts = is.firsts;
          recs = is.recs;
          lone_places = λ e p. (
            (λ h. (is.lone_places e p).0 (sym (same e) ∙ h)),
            (λ h. same e ∙ (is.lone_places e p).1 h),
          );
        }

    -- no equal record was there
    module _ (absent : place_of lone entry ≡ None) (g : SlotGroup) (first : g.first ≡ n.count)
        (has : HasPlace lone after entry (length groups)) where
      abbrev own : SlotGroup
      own = record { first = n.count; group = record_of.Single entry }

      none_equal : (j : ℕ) → j < n.count → IsSingle n j → image r j ≡ j →
          ¬ (read_definition n (image r) j ≡ rename (image (r ++ n.count ∷ [])) d)
      none_equal j below single live same =
          let at = lone_there s r is.whole is.read j below single live in
          let slot = lone_slot s r is.whole is.read at.0 j at.1 at.2 in
          let equal : at.1 ≡ entry = same_entry at.1 entry (sym slot.same ∙ (same ∙ sym renamed)) in
          none-is-not-some (place_of lone entry) at.0 absent (ap (place_of lone) (sym equal)
          ∙ (is.lone_places at.1 at.0).1 (j, at.2))

      new_recs : (p : ℕ) (h : SlotGroup) → IsRecAt (is.whole ++ own ∷ []) p h →
          slice_get (groups ++ g ∷ []) p ≡ Some h
      new_recs p h at = elim (place-before-or-last is.whole own p h at.1) [
        | inl w ↦ place-stays groups (g ∷ []) p h (is.recs p h (at.0, w, at.2))
        | inr w ↦ (let k : record_of.Single entry ≡ record_of.Rec at.0 =
            ap (λ (g : SlotGroup). g.group) w.1 ∙ at.2 in absurd cc)
      ]

      there : (e : EntryAt) (p : ℕ) (b : Bool) → b ≡ eq entry e → place_of after e ≡ Some p →
          IsLoneAt (is.whole ++ own ∷ []) p e
      there e p true t h =
          let same : entry ≡ e = entry_exact entry e (sym t) in
          let place : length groups ≡ p = some_inj (ap (λ (b : Bool). cond b (Some (length groups))
          (place_of lone e)) t ∙ (sym (has e) ∙ h)) in (
            n.count,
            ap (slice_get (is.whole ++ own ∷ [])) (sym place ∙ many) ∙ (last-place is.whole own
                ∙ ap (λ (e : EntryAt). Some (record { first = n.count; group = record_of.Single e })) same),
          )
      there e p false t h =
          let at = (is.lone_places e p).0
          (ap (λ (b : Bool). cond b (Some (length groups)) (place_of lone e)) t ∙ (sym (has e) ∙ h)) in
          (at.0, place-stays is.whole (own ∷ []) p (record { first = at.0; group = record_of.Single e }) at.1)

      old_place : (e : EntryAt) (p : ℕ) (b : Bool) → b ≡ eq entry e → place_of lone e ≡ Some p →
          place_of after e ≡ Some p
      old_place e p true t h = absurd (none-is-not-some (place_of lone entry) p absent
          (ap (place_of lone) (entry_exact entry e (sym t)) ∙ h))
      old_place e p false t h = has e
          ∙ (ap (λ (b : Bool). cond b (Some (length groups)) (place_of lone e)) (sym t) ∙ h)

      single_same : (a b : EntryAt) → record_of.Single a ≡ record_of.Single b → a ≡ b
      single_same a b e = cc

      back : (e : EntryAt) (p : ℕ) → IsLoneAt (is.whole ++ own ∷ []) p e → place_of after e ≡ Some p
      back e p at = elim (place-before-or-last is.whole own p
          (record { first = at.0; group = record_of.Single e }) at.1) [
            | inl w ↦ old_place e p (eq entry e) refl ((is.lone_places e p).1 (at.0, w))
            | inr w ↦
                (let same : entry ≡ e = single_same entry e (ap (λ (g : SlotGroup). g.group) w.1) in
                has e ∙ (ap (λ (x : EntryAt). cond (eq entry x) (Some (length groups)) (place_of lone e))
                (sym same)
                ∙ (ap (λ (b : Bool). cond b (Some (length groups)) (place_of lone e)) (entry_itself entry)
                ∙ ap (λ (q : ℕ). Some q) (many ∙ sym w.0))))
          ]

      pub absent_next : IsReadSoFar (s ++ Single d ∷ []) (r ++ n.count ∷ []) (groups ++ g ∷ []) after
      absent_next = record {
        whole = is.whole ++ own ∷ [];
        read = lone_new s r is.whole is.read d fine entry renamed none_equal;
        firsts = map-append (λ (g : SlotGroup). g.first) groups (g ∷ [])
            ∙ (ap (λ (xs : List ℕ). xs ++ g.first ∷ []) is.firsts
            ∙ (ap (λ (i : ℕ). map (λ (g : SlotGroup). g.first) is.whole ++ i ∷ []) first
            ∙ sym (map-append (λ (g : SlotGroup). g.first) is.whole (own ∷ []))));
        recs = new_recs;
        lone_places = λ e p. (there e p (eq entry e) refl, back e p);
      }

  -- a `Rec` comes
  module _ (ds : List Definition) (fine : group_error n.count ds ≡ None) (es : List EntryAt)
      (renamed : map entry_definition es ≡
      map (rename (image (r ++ range_with_len n.count (length ds)))) ds) where
    abbrev members : SlotGroup
    members = record { first = n.count; group = record_of.Rec es }

    still_lone : (e : EntryAt) (p : ℕ) → IsLoneAt (is.whole ++ members ∷ []) p e → IsLoneAt is.whole p e
    still_lone e p at = elim (place-before-or-last is.whole members p
        (record { first = at.0; group = record_of.Single e }) at.1) [
          | inl w ↦ (at.0, w)
          | inr w ↦ (let k : record_of.Rec es ≡ record_of.Single e =
              ap (λ (g : SlotGroup). g.group) w.1 in absurd cc)
        ]

    pub rec_next : IsReadSoFar (s ++ Rec ds ∷ []) (r ++ range_with_len n.count (length ds))
        (groups ++ members ∷ []) lone
    rec_next = record {
      whole = is.whole ++ members ∷ [];
      read = rec_new s r is.whole is.read ds fine es renamed;
      firsts = map-append (λ (g : SlotGroup). g.first) groups (members ∷ [])
          ∙ (ap (λ (xs : List ℕ). xs ++ n.count ∷ []) is.firsts
          ∙ sym (map-append (λ (g : SlotGroup). g.first) is.whole (members ∷ [])));
      recs = λ p g at. elim (place-before-or-last is.whole members p g at.1) [
        | inl w ↦ place-stays groups (members ∷ []) p g (is.recs p g (at.0, w, at.2))
        | inr w ↦ ap (slice_get (groups ++ members ∷ [])) (w.0 ∙ sym many)
            ∙ (last-place groups members ∙ ap (λ (g : SlotGroup). Some g) w.1)
      ];
      lone_places = λ e p. (
        (λ h. (let at = (is.lone_places e p).0 h in (
          at.0,
          place-stays is.whole (members ∷ []) p
              (record { first = at.0; group = record_of.Single e }) at.1,
        ))),
        (λ h. (is.lone_places e p).1 (still_lone e p h)),
      );
    }
