-- A section that was read into groups, and one more group without error: what it is read into then.
use Rattle.std.proofs.Common.{◌≡◌, ℕ, suc, ◌+◌, ◌<◌, List, [], ◌∷◌, ◌++◌, length, get_or, map, refl, sym, ap, subst, ◌∙◌, arith, None, true, false, ◌==◌, All}
use Rattle.std.specs.List.{slice_index_or, range_with_len}
use Rattle.std.proofs.lemmas.Bool.{eq-eqb, ne_eqb}
use Rattle.std.proofs.lemmas.Option.{slice_get-get_or}
use Rattle.std.proofs.lemmas.List.{length-map, map-append, append-nil}
use Rattle.std.proofs.lemmas.List.Elements.{All-append, All-cons, All-nil}
use Rattle.walrus_ty.specs.Definition.{Definition, rename}
use Rattle.walrus_ty.specs.Groups.{Section, Group, Single, Rec}
use Rattle.walrus_ty.specs.Records.{entry_definition, group_of}
use Rattle.walrus_ty.specs.declared.records.EntryAt.{EntryAt}
use Rattle.walrus_ty.specs.declared.records.GroupAt.TheVariants as record_of
use Rattle.walrus_sections.specs.FirstError.{group_error, definitions_of}
use Rattle.walrus_sections.specs.NormalForm.{image}
use Rattle.walrus_sections.specs.Section.{IndexSpace, index_space, IsSingle}
use Rattle.walrus_sections.specs.SlotMap.{TypeGroup, read_definition, read_groups}
use Rattle.walrus_sections.proofs.Reading.Groups.{groups_next}
use Rattle.walrus_sections.proofs.Reading.NextGroup.{follows}
use Rattle.walrus_normal_form.specs.declared.slot_group.SlotGroup.{SlotGroup}
use Rattle.walrus_normal_form.specs.Steps.ReadSections.{IsReadAs, type_group}
use Rattle.walrus_normal_form.proofs.Reading.NextSlots.{HasSlots, agree, same_read, here, last_slot, new_slot, shared_slot, member_slots}
use Rattle.walrus_normal_form.proofs.Reading.ReadGroups.{has_slots, slot_below}

map_agree :
    {X : Type 0} (f h : ℕ → X) (xs : List ℕ) →
    ((u : ℕ) → u < length xs → f (slice_index_or xs u 0) ≡ h (slice_index_or xs u 0)) →
    map f xs ≡ map h xs
map_agree f h [] same = refl
map_agree f h (x ∷ xs) same = ap (λ y. y ∷ map f xs) (same 0 (omega arith))
    ∙ ap (λ ys. h x ∷ ys) (map_agree f h xs (λ u w. same (suc u) (omega (arith, w))))

-- the definitions of members, by index
by_index :
    (f : Definition → Definition) (q : ℕ → Definition) (b : ℕ) (ds : List Definition) →
    ((u : ℕ) (d : Definition) → u < length ds → q (b + u) ≡ get_or ds u d) →
    map f ds ≡ map (λ i. f (q i)) (range_with_len b (length ds))
by_index f q b [] is = refl
by_index f q b (d ∷ ds) is =
    let here : b + 0 ≡ b = omega arith in
    ap (λ x. x ∷ map f ds) (ap f (sym (is 0 d (omega arith)) ∙ ap q here))
    ∙ ap (λ xs. f (q b) ∷ xs) (by_index f q (b + 1) ds (λ u e w.
    (let step : b + 1 + u ≡ b + suc u = omega arith in ap q step ∙ is (suc u) e (omega (arith, w)))))

module _ (s : Section) (r : List ℕ) (gs : List SlotGroup) (is : IsReadAs s r gs) where
  abbrev n : IndexSpace
  n = index_space s

  abbrev has : HasSlots s r
  has = has_slots s r gs is

  -- the group g makes these slots x and these groups
  module _ (g : Group) (fine : group_error n.count (definitions_of g) ≡ None) (x : List ℕ)
      (new : List SlotGroup) where
    abbrev now : IndexSpace
    now = index_space (s ++ g ∷ [])

    abbrev slot : ℕ → ℕ
    slot = image (r ++ x)

    abbrev IsDefined : SlotGroup → Type 0
    IsDefined g = definitions_of (group_of g.group) ≡ map (read_definition now slot) (type_group g).ids

    old_definitions : All IsDefined gs
    old_definitions k d h =
        let w : SlotGroup = get_or gs k d in
        is.definitions k d h ∙ map_agree (read_definition n (image r)) (read_definition now slot)
        (type_group w).ids (λ u b. sym (same_read s r has g fine x (slice_index_or (type_group w).ids u 0)
        (slot_below s r gs is k u w (slice_get-get_or gs k d h) b)))

    one_more : HasSlots (s ++ g ∷ []) (r ++ x) →
        map type_group new ≡ read_groups n.count slot (g ∷ []) → All IsDefined new →
        IsReadAs (s ++ g ∷ []) (r ++ x) (gs ++ new)
    one_more slots grouping defined = record {
      well_named = slots.well_named;
      one_each = slots.one_each;
      slot_map = slots.slot_map;
      grouping = map-append type_group gs new
          ∙ (ap (λ (xs : List TypeGroup). xs ++ map type_group new) is.grouping
          ∙ (ap (λ (xs : List TypeGroup). read_groups 0 (image r) s ++ xs) grouping
          ∙ sym (groups_next (image r) slot s g (agree s r has g fine x))));
      definitions = All-append IsDefined gs new old_definitions defined;
    }

  module _ (d : Definition) (fine : group_error n.count (d ∷ []) ≡ None) where
    abbrev read : Definition
    read = rename (image (r ++ n.count ∷ [])) d

    own_definition : (index_space (s ++ Single d ∷ [])).definition n.count ≡ d
    own_definition = here s r has d fine

    last : (j : ℕ) → image (r ++ j ∷ []) n.count ≡ j
    last = last_slot s r has d fine

    -- a lone type that is read as an earlier one is
    pub lone_shared :
        (j : ℕ) → j < n.count → IsSingle n j → image r j ≡ j → read_definition n (image r) j ≡ read →
        IsReadAs (s ++ Single d ∷ []) (r ++ j ∷ []) gs
    lone_shared j below single live same =
        let other : image (r ++ j ∷ []) n.count == n.count ≡ false = ap (λ (i : ℕ). i == n.count) (last j)
        ∙ ne_eqb j n.count (λ e. omega (arith, e, below)) in
        subst (IsReadAs (s ++ Single d ∷ []) (r ++ j ∷ [])) (append-nil gs)
        (one_more (Single d) fine (j ∷ []) [] (shared_slot s r has d fine j below single live same)
        (sym (rw other refl)) (All-nil (IsDefined (Single d) fine (j ∷ []) [])))

    -- a lone type that is read as no earlier one is
    pub lone_new :
        (e : EntryAt) → entry_definition e ≡ read →
        ((j : ℕ) → j < n.count → IsSingle n j → image r j ≡ j → ¬ (read_definition n (image r) j ≡ read)) →
        IsReadAs (s ++ Single d ∷ []) (r ++ n.count ∷ [])
        (gs ++ record { first = n.count; group = record_of.Single e } ∷ [])
    lone_new e is_read none =
        let w : SlotGroup = record { first = n.count; group = record_of.Single e } in
        let own : image (r ++ n.count ∷ []) n.count == n.count ≡ true =
        ap (λ (i : ℕ). i == n.count) (last n.count) ∙ eq-eqb n.count n.count refl in
        let slot : ℕ → ℕ = image (r ++ n.count ∷ []) in
        one_more (Single d) fine (n.count ∷ []) (w ∷ []) (new_slot s r has d fine none)
        (sym (rw own refl))
        (All-cons (IsDefined (Single d) fine (n.count ∷ []) (w ∷ [])) w []
        (ap (λ (e : Definition). e ∷ []) (is_read ∙ ap (rename slot) (sym own_definition)))
        (All-nil (IsDefined (Single d) fine (n.count ∷ []) (w ∷ []))))

  -- a `Rec`
  pub rec_new :
      (ds : List Definition) → group_error n.count ds ≡ None → (es : List EntryAt) →
      map entry_definition es ≡ map (rename (image (r ++ range_with_len n.count (length ds)))) ds →
      IsReadAs (s ++ Rec ds ∷ []) (r ++ range_with_len n.count (length ds))
      (gs ++ record { first = n.count; group = record_of.Rec es } ∷ [])
  rec_new ds fine es is_read =
      let own : List ℕ = range_with_len n.count (length ds) in
      let slot : ℕ → ℕ = image (r ++ own) in
      let w : SlotGroup = record { first = n.count; group = record_of.Rec es } in
      let many : length (map entry_definition es) ≡ length ds = ap length is_read
      ∙ length-map ds (rename slot) in
      one_more (Rec ds) fine own (w ∷ []) (member_slots s r has ds fine)
      (ap (λ (k : ℕ). record { ids = range_with_len n.count k; is_explicit = true } ∷ []) many)
      (All-cons (IsDefined (Rec ds) fine own (w ∷ [])) w []
      (is_read ∙ (by_index (rename slot) (index_space (s ++ Rec ds ∷ [])).definition n.count ds
      (follows s (Rec ds)).new_definition ∙ ap (λ (k : ℕ).
      map (read_definition (index_space (s ++ Rec ds ∷ [])) slot) (range_with_len n.count k)) (sym many)))
      (All-nil (IsDefined (Rec ds) fine own (w ∷ []))))
