-- What the calls of the reader give, over plain values.
use Rattle.std.proofs.Common.{◌≡◌, ℕ, ◌<◌, ◌≤◌, List, [], ◌∷◌, ◌++◌, length, get_or, map, refl, sym, ap, subst, ◌∙◌, arith, Option, Some, None, slice_set}
use Rattle.std.specs.List.{slice_get, range_with_len}
use Rattle.std.specs.Option.{unwrap_or}
use Rattle.std.proofs.lemmas.List.{set_at}
use Rattle.std.proofs.lemmas.Option.{slice_get_within, slice_get_past, slice_get-get_or}
use Rattle.walrus_ty.specs.Definition.{Definition, rename}
use Rattle.walrus_ty.specs.Groups.{Section, Single, Rec}
use Rattle.walrus_ty.specs.Records.{entry_definition}
use Rattle.walrus_ty.specs.declared.records.EntryAt.{EntryAt}
use Rattle.walrus_ty.specs.declared.records.GroupAt.TheVariants as record_of
use Rattle.walrus_sections.specs.FirstError.{group_error}
use Rattle.walrus_sections.specs.NormalForm.{image}
use Rattle.walrus_sections.specs.Section.{index_space}
use Rattle.walrus_normal_form.specs.declared.slot_group.SlotGroup.{SlotGroup}
use Rattle.walrus_normal_form.specs.Steps.ReadSections.{no_slot_group}
use Rattle.walrus_normal_form.specs.Steps.SectionReaders.{IsReadSoFar, place_of}
use Rattle.walrus_normal_form.proofs.Reading.Places.{same-length, none-is-not-some}
use Rattle.walrus_normal_form.proofs.Reading.NextStates.{HasPlace, found_next, absent_next, rec_next}

-- a place that is not the default is what the option has
place_found : (o : Option ℕ) (place next : ℕ) → place ≡ unwrap_or o next → place < next → o ≡ Some place
place_found None place next e h = absurd (omega (arith, e, h))
place_found (Some p) place next e h = ap (λ q. Some q) (sym e)

module _ (s : Section) (slots : List ℕ) (groups : List SlotGroup) (lone after : List (EntryAt × ℕ))
    (index : ℕ) (is : IsReadSoFar s slots groups lone) (next : index ≡ length slots) where
  index_is : index ≡ (index_space s).count
  index_is = next ∙ is.read.one_each

  many : length groups ≡ length is.whole
  many = same-length (λ (g : SlotGroup). g.first) groups is.whole is.firsts

  module _ (d : Definition) (fine : group_error index (d ∷ []) ≡ None) (entry : EntryAt)
      (renamed : entry_definition entry ≡ rename (image (slots ++ index ∷ [])) d) (size place : ℕ)
      (sized : size ≡ length groups) (given : place ≡ unwrap_or (place_of lone entry) size)
      (has : HasPlace lone after entry place) where
    is_place : place ≡ unwrap_or (place_of lone entry) (length groups)
    is_place = given ∙ ap (unwrap_or (place_of lone entry)) sized

    fine_there : group_error (index_space s).count (d ∷ []) ≡ None
    fine_there = subst (λ (i : ℕ). group_error i (d ∷ []) ≡ None) index_is fine

    renamed_there : entry_definition entry ≡ rename (image (slots ++ (index_space s).count ∷ [])) d
    renamed_there = subst (λ (i : ℕ). entry_definition entry ≡ rename (image (slots ++ i ∷ [])) d) index_is
        renamed

    pub single_found :
        (g : SlotGroup) (seen : List SlotGroup) → seen ≡ groups → place < length seen →
        g ≡ get_or seen place g →
        IsReadSoFar (s ++ Single d ∷ []) (slice_set (slots ++ index ∷ []) index g.first) groups after
    single_found g seen same below item =
        let there : slice_get groups place ≡ Some g =
        ap (λ (gs : List SlotGroup). slice_get gs place) (sym same)
        ∙ (slice_get-get_or seen place g below ∙ ap (λ (h : SlotGroup). Some h) (sym item)) in
        subst (λ (r : List ℕ). IsReadSoFar (s ++ Single d ∷ []) r groups after)
        (sym (set_at slots index [] g.first index (sym next)))
        (found_next s slots groups lone is d fine_there entry renamed_there after place g
        (place_found (place_of lone entry) place (length groups) is_place
        (slice_get_within groups place g there)) there has)

    absent : (o : Option ℕ) → o ≡ place_of lone entry → slice_get groups place ≡ None →
        place_of lone entry ≡ None
    absent None e past = sym e
    absent (Some p) e past =
        let at = (is.lone_places entry p).0 (sym e) in
        let below = slice_get_within is.whole p
        (record { first = at.0; group = record_of.Single entry }) at.1 in
        let here : place ≡ p = is_place ∙ ap (λ (o : Option ℕ). unwrap_or o (length groups)) (sym e) in
        let m = many in
        absurd (none-is-not-some (slice_get groups place) _ past
        (slice_get-get_or groups place no_slot_group (omega arith)))

    pub single_absent :
        (g : SlotGroup) → g.first ≡ index →
        (seen : List SlotGroup) → seen ≡ groups → length seen ≤ place →
        IsReadSoFar (s ++ Single d ∷ []) (slots ++ index ∷ []) (groups ++ g ∷ []) after
    single_absent g first seen same beyond =
        let past : slice_get groups place ≡ None =
        ap (λ (gs : List SlotGroup). slice_get gs place) (sym same) ∙ slice_get_past seen place beyond in
        let none = absent (place_of lone entry) refl past in
        let last : place ≡ length groups = is_place
        ∙ ap (λ (o : Option ℕ). unwrap_or o (length groups)) none in
        subst (λ (i : ℕ). IsReadSoFar (s ++ Single d ∷ []) (slots ++ i ∷ []) (groups ++ g ∷ []) after)
        (sym index_is) (absent_next s slots groups lone is d fine_there entry renamed_there after none g
        (first ∙ index_is) (subst (λ (p : ℕ). HasPlace lone after entry p) last has))

  pub rec_pushed :
      (ds : List Definition) → group_error index ds ≡ None → (es : List EntryAt) →
      map entry_definition es ≡ map (rename (image (slots ++ range_with_len index (length ds)))) ds →
      IsReadSoFar (s ++ Rec ds ∷ []) (slots ++ range_with_len index (length ds))
      (groups ++ record { first = index; group = record_of.Rec es } ∷ []) lone
  rec_pushed ds fine es renamed =
      subst (λ (i : ℕ). group_error i ds ≡ None →
      map entry_definition es ≡ map (rename (image (slots ++ range_with_len i (length ds)))) ds →
      IsReadSoFar (s ++ Rec ds ∷ []) (slots ++ range_with_len i (length ds))
      (groups ++ record { first = i; group = record_of.Rec es } ∷ []) lone) (sym index_is)
      (λ f e. rec_next s slots groups lone is ds f es e) fine renamed
