-- The groups that a section is read into: which slots they have, and which records.
use Rattle.std.proofs.Common.{◌≡◌, ℕ, ◌+◌, ◌<◌, List, [], ◌∷◌, length, get_or, map, refl, sym, ap, subst, ◌∙◌, arith, Some, inl, inr, true, false}
use Rattle.std.specs.List.{slice_get, slice_index_or}
use Rattle.std.specs.Option.{option_map}
use Rattle.std.proofs.lemmas.Option.{slice_get-map, slice_get_within, slice_get-get_or, get_or_from_slice_get}
use Rattle.std.proofs.lemmas.List.{length-map}
use Rattle.walrus_ty.specs.Groups.{Section}
use Rattle.walrus_ty.specs.Records.{entry_definition, group_of}
use Rattle.walrus_ty.specs.declared.records.EntryAt.{EntryAt}
use Rattle.walrus_ty.specs.declared.records.GroupAt.{GroupAt}
use Rattle.walrus_ty.specs.declared.records.GroupAt.TheVariants.{Single, Rec}
use Rattle.walrus_sections.specs.Emission.{IsMember, group_at, no_group}
use Rattle.walrus_sections.specs.FirstError.{definitions_of}
use Rattle.walrus_sections.specs.NormalForm.{image}
use Rattle.walrus_sections.specs.Section.{IndexSpace, index_space, places_from, IsSingle}
use Rattle.walrus_sections.specs.SlotMap.{TypeGroup, read_definition, read_groups}
use Rattle.walrus_sections.proofs.Emission.Groups.{AreGroups, groups}
use Rattle.walrus_normal_form.specs.declared.slot_group.SlotGroup.{SlotGroup}
use Rattle.walrus_normal_form.specs.Steps.ReadSections.{IsReadAs, type_group, no_slot_group}
use Rattle.walrus_normal_form.proofs.Reading.NextSlots.{HasSlots}
use Rattle.walrus_normal_form.proofs.Reading.Places.{none-is-not-some}

-- a slot of a lone type, which is read as the record says
pub record IsLoneSlot (n : IndexSpace) (r : ℕ → ℕ) (slot : ℕ) (entry : EntryAt) : Type 0 where
  pub below : slot < n.count
  pub single : IsSingle n slot
  pub live : r slot ≡ slot
  pub same : read_definition n r slot ≡ entry_definition entry

head_same : {X : Type 0} (x y : X) → x ∷ [] ≡ y ∷ [] → x ≡ y
head_same x y e = cc

-- a group that is not explicit is a lone type
lone_group :
    (g : SlotGroup) (x : TypeGroup) (u slot : ℕ) → type_group g ≡ x → x.is_explicit ≡ false → u ≡ 0 →
    slice_index_or x.ids u 0 ≡ slot →
    (e : EntryAt) × (g ≡ record { first = slot; group = Single e })
lone_group g x u slot t f z is = by_group g.group refl
  where
    by_group : (h : GroupAt) → g.group ≡ h → (e : EntryAt) × (g ≡ record { first = slot; group = Single e })
    by_group (Single e) same =
        let own : TypeGroup = record { ids = g.first ∷ []; is_explicit = false } in
        let t' : own ≡ x = ap (λ (h : GroupAt). type_group (record { first = g.first; group = h })) (sym same)
        ∙ t in
        let first : g.first ≡ slot = ap (λ (v : ℕ). slice_index_or own.ids v 0) (sym z)
        ∙ (ap (λ (y : TypeGroup). slice_index_or y.ids u 0) t' ∙ is) in (
          e,
          ap (λ (h : GroupAt). (let w : SlotGroup = record { first = g.first; group = h } in w)) same
              ∙ ap (λ (i : ℕ). (let w : SlotGroup = record { first = i; group = Single e } in w)) first,
        )
    by_group (Rec es) same =
        let k : true ≡ false =
        ap (λ (h : GroupAt). (type_group (record { first = g.first; group = h })).is_explicit) (sym same)
        ∙ (ap (λ (y : TypeGroup). y.is_explicit) t ∙ f) in absurd cc

module _ (s : Section) (r : List ℕ) (gs : List SlotGroup) (is : IsReadAs s r gs) where
  abbrev n : IndexSpace
  n = index_space s

  abbrev all : List TypeGroup
  all = read_groups 0 (image r) s

  pub has_slots : HasSlots s r
  has_slots = record { well_named = is.well_named; one_each = is.one_each; slot_map = is.slot_map }

  lists : AreGroups 0 (image r) all (places_from 0 0 s)
  lists = groups 0 0 (image r) s (λ i x h o.
      (let e : 0 + i ≡ i = omega arith in ap (image r) e ∙ (is.slot_map.recs i h (x, o) ∙ sym e)))

  group_there : (p : ℕ) (g : SlotGroup) → slice_get gs p ≡ Some g → slice_get all p ≡ Some (type_group g)
  group_there p g h = ap (λ (xs : List TypeGroup). slice_get xs p) (sym is.grouping)
      ∙ (slice_get-map type_group gs p ∙ ap (option_map type_group) h)

  group_at_is : (p : ℕ) (g : SlotGroup) → slice_get gs p ≡ Some g → group_at all p ≡ type_group g
  group_at_is p g h = get_or_from_slice_get all p (type_group g) no_group (group_there p g h)

  member : (p u : ℕ) (g : SlotGroup) → slice_get gs p ≡ Some g → u < length (type_group g).ids →
      IsMember all p u (slice_index_or (type_group g).ids u 0)
  member p u g h w = let e = group_at_is p g h in record {
    group = slice_get_within all p (type_group g) (group_there p g h);
    place = subst (λ (x : TypeGroup). u < length x.ids) (sym e) w;
    is = ap (λ (x : TypeGroup). slice_index_or x.ids u 0) e;
  }

  -- the slots of a group are indices of the section
  pub slot_below : (p u : ℕ) (g : SlotGroup) → slice_get gs p ≡ Some g → u < length (type_group g).ids →
      slice_index_or (type_group g).ids u 0 < n.count
  slot_below p u g h w = let q = lists.is p u (slice_index_or (type_group g).ids u 0) (member p u g h w) in
      let b = q.1 in let e = q.2 in omega arith

  definition_there : (p : ℕ) (g : SlotGroup) → slice_get gs p ≡ Some g →
      definitions_of (group_of g.group) ≡ map (read_definition n (image r)) (type_group g).ids
  definition_there p g h = subst
      (λ (g : SlotGroup). definitions_of (group_of g.group) ≡
      map (read_definition n (image r)) (type_group g).ids)
      (get_or_from_slice_get gs p g g h) (is.definitions p g (slice_get_within gs p g h))

  -- the group of a lone type has its slot
  pub lone_slot : (p first : ℕ) (e : EntryAt) →
      slice_get gs p ≡ Some (record { first = first; group = Single e }) →
      IsLoneSlot n (image r) first e
  lone_slot p first e h =
      let g : SlotGroup = record { first = first; group = Single e } in
      let q = lists.is p 0 first (member p 0 g h (omega arith)) in
      let b = q.1 in
      let at : first ≡ q.0 = (let z = q.2 in omega arith) in
      record {
        below = omega arith;
        single = elim q.4 [
          | inl y ↦ (let k : false ≡ true = ap (λ (x : TypeGroup). x.is_explicit) (sym (group_at_is p g h))
              ∙ y.0 in absurd cc)
          | inr y ↦ ap n.rec_position at ∙ y.1
        ];
        live = q.3;
        same = sym (head_same (entry_definition e) (read_definition n (image r) first)
            (definition_there p g h));
      }

  there_as : (p : ℕ) (g h : SlotGroup) → slice_get gs p ≡ Some g → g ≡ h → slice_get gs p ≡ Some h
  there_as p g h is same = is ∙ ap (λ (g : SlotGroup). Some g) same

  -- and the slot of a lone type has its group
  pub lone_there : (slot : ℕ) → slot < n.count → IsSingle n slot → image r slot ≡ slot →
      (p : ℕ) × (e : EntryAt) × (slice_get gs p ≡ Some (record { first = slot; group = Single e }))
  lone_there slot h single live =
      let z : 0 + slot ≡ slot = omega arith in
      let m = lists.has slot h (ap (image r) z ∙ (live ∙ sym z)) in
      let q = lists.is m.0 m.1 (0 + slot) m.2 in
      let p = m.0 in
      let many : length all ≡ length gs = ap length (sym is.grouping) ∙ length-map gs type_group in
      let below = m.2.group in
      let w : SlotGroup = get_or gs p no_slot_group in
      let there : slice_get gs p ≡ Some w = slice_get-get_or gs p no_slot_group (omega arith) in
      let at : slot ≡ q.0 = (let y = q.2 in omega arith) in
      elim q.4 [
        | inl y ↦ absurd (none-is-not-some (n.rec_position slot) (y.1.0, m.1) single
            (ap n.rec_position at ∙ y.1.1))
        | inr y ↦ (let l = lone_group w (group_at all p) m.1 slot (sym (group_at_is p w there)) y.0 y.2
            (m.2.is ∙ z) in
            (p, l.0, there_as p w (record { first = slot; group = Single l.0 }) there l.1))
      ]
