-- The groups of a read section in the order in which they are written: they can be written one after
-- the other, and what is written is the normal form.
use Rattle.std.proofs.Common.{◌≡◌, ℕ, zero, suc, ◌+◌, ◌<◌, ◌≤◌, ◌^◌, List, [], ◌∷◌, length, map, take, slice_get, Contains, All, Some, get_or, refl, sym, ap, subst, ◌∙◌, arith, true, false, Bool, nat_eq, eqb-true, ◌||◌}
use Rattle.std.specs.List.{slice_index, list_any, IsDistinct}
use Rattle.std.proofs.lemmas.List.{ext_get_or, get_or_default, get_or-map, length-map}
use Rattle.std.proofs.lemmas.Map.Keys.{IsDistinct-from_apart}
use Rattle.std.proofs.lemmas.Map.Steps.{length-le_from_distinct_below}
use Rattle.std.proofs.lemmas.Option.{get_or_from_slice_get, slice_get-get_or, slice_get_within}
use Rattle.walrus_ty.specs.Definition.{Definition, Names, rename}
use Rattle.walrus_ty.specs.Groups.{Section}
use Rattle.walrus_ty.specs.Records.{group_of, section_of}
use Rattle.walrus_ty.specs.declared.records.GroupAt.{GroupAt}
use Rattle.walrus_sections.specs.FirstError.{definitions_of}
use Rattle.walrus_sections.specs.Section.{index_space}
use Rattle.walrus_sections.specs.SlotMap.{TypeGroup, read_definition, read_groups}
use Rattle.walrus_sections.specs.Emission.{TableView, IsMember, IsEmission, group_at, no_group, read_table}
use Rattle.walrus_sections.specs.NormalForm.{image, IsNormalForm}
use Rattle.walrus_sections.specs.Refusal.{HasIndexBy}
use Rattle.walrus_sections.proofs.Emission.Emits.{read_then_emitted, names_stand}
use Rattle.walrus_normal_form.specs.declared.slot_group.SlotGroup.{SlotGroup}
use Rattle.walrus_normal_form.specs.Steps.ReadSections.{IsReadAs, no_slot_group, slot_group_at, type_group}
use Rattle.walrus_sections.specs.WritingOrders.{IsApart, IsWritingOrder, ids_in, in_order, written_group}
use Rattle.walrus_normal_form.specs.Steps.WrittenRecords.{AreNumbered, CanBeWritten, GroupNames, NameSlotsBefore, groups_at, slots_in}
use Rattle.walrus_sections.proofs.Emission.IndexOfId.{Home, home}
use Rattle.walrus_sections.proofs.Emission.PairsOfGroups.{emission, has_index, placed_member, same_from}
use Rattle.walrus_normal_form.proofs.Writing.RenamedGroups.{map-agree, map-map, renamed-written}
use Rattle.walrus_sections.proofs.Emission.ReadMembers.{member_is, same_member, sent_by_slots, single}
use Rattle.walrus_normal_form.proofs.Writing.Numbering.{renamed}

map_take : {X Y : Type 0} (f : X → Y) (n : ℕ) (xs : List X) → map f (take n xs) ≡ take n (map f xs)
map_take f zero [] = refl
map_take f zero (x ∷ xs) = refl
map_take f (suc n) [] = refl
map_take f (suc n) (x ∷ xs) = ap (λ ys. f x ∷ ys) (map_take f n xs)

below_any : (xs : List ℕ) (n q : ℕ) → All (λ x. x < n) xs → list_any (nat_eq q) xs ≡ true → q < n
below_any [] n q each h = cc
below_any (x ∷ xs) n q each h =
    by (nat_eq q x) refl h (below_any xs n q (λ k d lt. each (suc k) d (omega (arith, lt))))
  where
    by : (b : Bool) → nat_eq q x ≡ b → (b || list_any (nat_eq q) xs) ≡ true →
        (list_any (nat_eq q) xs ≡ true → q < n) → q < n
    by true e f rest = subst (λ (y : ℕ). y < n) (sym (eqb-true q x e)) (each 0 0 (omega arith))
    by false e f rest = rest f

distinct_from_apart : (xs : List ℕ) → IsApart xs → IsDistinct nat_eq xs
distinct_from_apart xs apart = IsDistinct-from_apart nat_eq xs (λ p q d lt in_q.
    by p q d lt in_q (nat_eq (get_or xs p d) (get_or xs q d)) refl)
  where
    by : (p q d : ℕ) → p < q → q < length xs → (b : Bool) → nat_eq (get_or xs p d) (get_or xs q d) ≡ b →
        nat_eq (get_or xs p d) (get_or xs q d) ≡ false
    by p q d lt in_q false e = e
    by p q d lt in_q true e =
        let same : get_or xs p d ≡ get_or xs q d = eqb-true (get_or xs p d) (get_or xs q d) e in
        let z : p ≡ q = apart p q (get_or xs q d)
        (slice_get-get_or xs p d (omega (arith, lt, in_q)) ∙ ap (λ (n : ℕ). Some n) same)
        (slice_get-get_or xs q d in_q) in
        absurd (omega (arith, z, lt))

module _ (s : Section) (slots : List ℕ) (read : List SlotGroup) (has : IsReadAs s slots read)
    (order : List ℕ) (ord : IsWritingOrder (read_table s (image slots)) order) where
  abbrev r : ℕ → ℕ
  r = image slots

  abbrev table : TableView
  table = read_table s r

  abbrev S : List TypeGroup
  S = read_groups 0 r s

  abbrev ws : List TypeGroup
  ws = in_order S order

  abbrev gs : List SlotGroup
  gs = groups_at read order

  abbrev defined : ℕ → Definition
  defined = read_definition (index_space s) r

  as_many : length S ≡ length read
  as_many = ap length (sym has.grouping) ∙ length-map read type_group

  at_read : (g : ℕ) → g < length S → type_group (slot_group_at read g) ≡ group_at S g
  at_read g lt = sym (ap (λ (xs : List TypeGroup). group_at xs g) (sym has.grouping)
      ∙ get_or-map type_group read g no_slot_group no_group (omega (arith, lt, as_many)))

  place_within : (a : ℕ) → a < length order → slice_index order a < length S
  place_within a lt = (ord.written a lt).2.group

  at_order : (a : ℕ) → a < length order → slot_group_at gs a ≡ slot_group_at read (slice_index order a)
  at_order a lt = get_or-map (slot_group_at read) order a 0 no_slot_group lt

  as_read : map type_group gs ≡ ws
  as_read = ext_get_or no_group (map type_group gs) ws
      (length-map gs type_group ∙ (length-map order (slot_group_at read)
      ∙ sym (length-map order (group_at S))))
      (λ a lt.
      let in_gs : a < length gs = omega (arith, lt, length-map gs type_group) in
      let in_order : a < length order = omega (arith, in_gs, length-map order (slot_group_at read)) in
      get_or-map type_group gs a no_slot_group no_group in_gs
      ∙ (ap type_group (at_order a in_order) ∙ (at_read (slice_index order a) (place_within a in_order)
      ∙ sym (get_or-map (group_at S) order a 0 no_group in_order))))

  slots_are : slots_in gs ≡ ids_in ws
  slots_are = ap ids_in as_read

  slots_up_to : (n : ℕ) → slots_in (take n gs) ≡ ids_in (take n ws)
  slots_up_to n = ap ids_in (map_take type_group n gs ∙ ap (take n) as_read)

  within : All (λ place. place < length read) order
  within a d lt = subst (λ (n : ℕ). n < length read) (get_or_default order a 0 d lt)
      (omega (arith, place_within a lt, as_many))

  distinct : IsApart order
  distinct p q x at_p at_q = same_from table order ord p q (slice_get_within order p x at_p)
      (slice_get_within order q x at_q)
      (get_or_from_slice_get order p x 0 at_p ∙ sym (get_or_from_slice_get order q x 0 at_q))

  apart_ids : IsApart (ids_in ws)
  apart_ids p q i at_p at_q =
      let h : Home ws p i = home ws p i at_p in
      let k : Home ws q i = home ws q i at_q in
      let m : _ = placed_member table order ord h.group h.place i h.is in
      let n : _ = placed_member table order ord k.group k.place i k.is in
      let same : _ = same_member s r has.slot_map (slice_index order h.group) h.place
      (slice_index order k.group) k.place i m.1 n.1 in
      let groups_same : h.group ≡ k.group = m.2 k.group n.0 same.0 in
      h.at ∙ (ap (λ (a : ℕ). length (ids_in (take a ws)) + h.place) groups_same
      ∙ (ap (λ (u : ℕ). length (ids_in (take k.group ws)) + u) same.1 ∙ sym k.at))

  below : All (λ slot. slot < length slots) (ids_in ws)
  below k d lt =
      let i : ℕ = get_or (ids_in ws) k d in
      let h : Home ws k i = home ws k i (slice_get-get_or (ids_in ws) k d lt) in
      let m : _ = placed_member table order ord h.group h.place i h.is in
      omega (arith, (member_is s r has.slot_map (slice_index order h.group) h.place i m.1).0, has.one_each)

  few : length (ids_in ws) < 2 ^ 32
  few =
      let le : length (ids_in ws) ≤ length slots = length-le_from_distinct_below (ids_in ws) (length slots)
      (distinct_from_apart (ids_in ws) apart_ids) (λ q h. below_any (ids_in ws) (length slots) q below h) in
      omega (arith, le, has.one_each, has.well_named.few)

  -- each record of a group is what its slot defines
  defined_at : (g : ℕ) → g < length S →
      definitions_of (group_of (slot_group_at read g).group) ≡ map defined (group_at S g).ids
  defined_at g lt = has.definitions g no_slot_group (omega (arith, lt, as_many))
      ∙ ap (λ (w : TypeGroup). map defined w.ids) (at_read g lt)

  named_before : (g k : ℕ) → g < length S → GroupNames (group_of (slot_group_at read g).group) k →
      HasIndexBy table g k
  named_before g k lt n =
      let u : ℕ = n.1.0 in
      let in_map : u < length (map defined (group_at S g).ids) =
      omega (arith, n.1.1, ap length (defined_at g lt)) in
      let in_ids : u < length (group_at S g).ids =
      omega (arith, in_map, length-map (group_at S g).ids defined) in
      let i : ℕ = get_or (group_at S g).ids u 0 in
      let is : defined i ≡ n.0 = sym (get_or-map defined (group_at S g).ids u 0 n.0 in_ids)
      ∙ (ap (λ (ds : List Definition). get_or ds u n.0) (sym (defined_at g lt)) ∙ n.1.2) in
      let m : IsMember S g u i = record { group = lt; place = in_ids; is = refl } in
      let home = names_stand s r has.well_named.below_ends has.slot_map g u i k m
      (subst (λ (d : Definition). Names d k) (sym is) n.2) in
      record {
        home = home.0;
        place = home.1;
        written = (home.1, k, home.2, refl);
        member = home.2;
        by = home.3;
      }

  named : NameSlotsBefore gs
  named a k lt n =
      let in_order : a < length order = omega (arith, lt, length-map order (slot_group_at read)) in
      let by : HasIndexBy table (slice_index order a) k = named_before (slice_index order a) k
      (place_within a in_order)
      (subst (λ (g : SlotGroup). GroupNames (group_of g.group) k) (at_order a in_order) n) in
      subst (λ (xs : List ℕ). Contains xs k) (sym (slots_up_to (a + 1)))
      (has_index table order ord a k in_order by)

  pub can_be_written : CanBeWritten read order (length slots)
  can_be_written = record {
    within = within;
    distinct = distinct;
    apart = subst IsApart (sym slots_are) apart_ids;
    below = subst (λ (xs : List ℕ). All (λ slot. slot < length slots) xs) (sym slots_are) below;
    few = omega (arith, few, ap length slots_are);
    named = named;
  }

  module _ (new : List ℕ) (numbered : AreNumbered (slots_in gs) new) (out : List GroupAt)
      (is : section_of out ≡ map (renamed new) gs) where
    abbrev m : ℕ → ℕ
    m = image new

    abbrev written : ℕ → Definition
    written i = rename m (defined i)

    place_is : (i p : ℕ) → slice_get (ids_in ws) p ≡ Some i → m i ≡ p
    place_is i p h = get_or_from_slice_get new i p 0
        (numbered p i (ap (λ (xs : List ℕ). slice_get xs p) slots_are ∙ h))

    as_written : section_of out ≡ map (written_group written) ws
    as_written = is
        ∙ (map-agree (renamed new) (λ g. written_group written (type_group g)) gs (λ a lt.
        let in_order : a < length order = omega (arith, lt, length-map order (slot_group_at read)) in
        let g : ℕ = slice_index order a in
        let below_g : g < length read = omega (arith, place_within a in_order, as_many) in
        ap (renamed new) (at_order a in_order)
        ∙ (renamed-written m defined (slot_group_at read g).first (group_of (slot_group_at read g).group)
        (has.definitions g no_slot_group below_g)
        ∙ ap (λ (x : SlotGroup). written_group written (type_group x)) (sym (at_order a in_order))))
        ∙ (sym (map-map (written_group written) type_group gs) ∙ ap (map (written_group written)) as_read))

    emitted : IsEmission table (section_of out) m
    emitted = subst (λ (n : Section). IsEmission table n m) (sym as_written)
        (emission table order ord (single s r has.slot_map) m place_is)

    pub normal : IsNormalForm s (section_of out) (map m slots)
    normal = subst (IsNormalForm s (section_of out)) (sym (sent_by_slots s slots has.one_each m))
        (read_then_emitted s (section_of out) r m has.well_named has.slot_map emitted)
