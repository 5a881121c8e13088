-- The order in which groups are sorted is the order in which they are written.
use Rattle.std.proofs.Common.{◌≡◌, ℕ, ◌<◌, List, map, length, refl, sym, ap, subst, ◌∙◌, arith, Some, None, Option, Bool, true, false, inl, inr, zero-add}
use Rattle.std.specs.List.{slice_get, slice_index}
use Rattle.std.specs.List.Sorted.{IsPermutation}
use Rattle.std.specs.Option.{is_some}
use Rattle.std.specs.declared.cmp.Ordering.{Ordering}
use Rattle.std.proofs.lemmas.Bool.{cases_lt}
use Rattle.std.proofs.lemmas.List.{length-map, get_or-map, get_or_past}
use Rattle.std.proofs.lemmas.List.Sorted.{All-permutation}
use Rattle.std.proofs.lemmas.Option.{slice_get_within, get_or_from_slice_get}
use Rattle.walrus_ty.specs.contracts.records.EntryAtOrd.TheImpl as entry_order
use Rattle.walrus_ty.specs.declared.records.EntryAt.{EntryAt}
use Rattle.walrus_ty.specs.Definition.{Definition, Names, definition_cmp}
use Rattle.walrus_ty.specs.Groups.{Section}
use Rattle.walrus_ty.specs.Records.{entry_definition, group_of}
use Rattle.walrus_ty.proofs.Names.Definitions.{named_before}
use Rattle.walrus_ty.proofs.Orders.Records.{entry_is}
use Rattle.walrus_sections.specs.Emission.{TableView, IsFreeGroup, IsGrouped, IsInversion, IsMember, IsWritten, IsWrittenBefore, group_at, read_table}
use Rattle.walrus_sections.specs.FirstError.{definitions_of}
use Rattle.walrus_sections.specs.NormalForm.{image}
use Rattle.walrus_sections.specs.Section.{IndexSpace, index_space, places_from}
use Rattle.walrus_sections.specs.SlotMap.{TypeGroup, read_groups}
use Rattle.walrus_sections.proofs.Emission.Groups.{AreGroups, groups as groups_are}
use Rattle.walrus_sections.proofs.Emission.Made.{down, twice}
use Rattle.walrus_sections.proofs.Sections.Rows.{laid_out}
use Rattle.walrus_normal_form.specs.declared.order.PendingGroup.{PendingGroup}
use Rattle.walrus_normal_form.specs.declared.slot_group.SlotGroup.{SlotGroup}
use Rattle.walrus_normal_form.specs.Steps.PendingGroups.{ArePending, IsPending, head, head_at, is_free_at, is_written_at, places_of}
use Rattle.walrus_normal_form.specs.Steps.ReadSections.{IsReadAs, no_slot_group, slot_group_at, type_group}
use Rattle.walrus_sections.specs.RunStarts.{IsTurnedRound, StandsBefore}
use Rattle.walrus_sections.specs.WritingOrders.{IsWritingOrder}
use Rattle.walrus_normal_form.proofs.Ordering.SlotGroups.{IsFreeSlot, free_slot, from_free_slots, has_head, head_slot}
use Rattle.walrus_sections.proofs.Ordering.SortedPlaces.{at_place, each_written, onto_written, place_at}
use Rattle.walrus_sections.proofs.Emission.PairsOfGroups.{at_member, to_member}

some_of : {X : Type 0} (o : Option X) → is_some o ≡ true → (x : X) × (o ≡ Some x)
some_of None h = cc
some_of (Some x) h = (x, refl)

abbrev pub entry_cmp : EntryAt → EntryAt → Ordering
entry_cmp = (entry_order.ghosts).cmp

module _ (section : Section) (slots : List ℕ) (groups : List SlotGroup)
    (is : IsReadAs section slots groups) where
  abbrev s : IndexSpace
  s = index_space section

  abbrev r : ℕ → ℕ
  r = image slots

  abbrev view : TableView
  view = read_table section r

  abbrev gs : List TypeGroup
  gs = read_groups 0 r section

  abbrev at : ℕ → SlotGroup
  at = slot_group_at groups

  -- the groups of the table, and their slots

  many : length gs ≡ length groups
  many = ap length (sym is.grouping) ∙ length-map groups type_group

  group_is : (g : ℕ) → g < length groups → group_at gs g ≡ type_group (at g)
  group_is g below = ap (λ (ws : List TypeGroup). group_at ws g) (sym is.grouping)
      ∙ get_or-map type_group groups g no_slot_group _ below

  in_groups : (g u i : ℕ) → IsMember gs g u i → g < length groups
  in_groups g u i m = omega (arith, m.group, many)

  slot_at : (g u i : ℕ) → IsMember gs g u i → slice_get (type_group (at g)).ids u ≡ Some i
  slot_at g u i m = ap (λ (w : TypeGroup). slice_get w.ids u) (sym (group_is g (in_groups g u i m)))
      ∙ at_member gs g u i m

  member_at : (g u i : ℕ) → g < length groups → slice_get (type_group (at g)).ids u ≡ Some i → IsMember gs g u i
  member_at g u i below h = to_member gs g u i
      (ap (λ (w : TypeGroup). slice_get w.ids u) (group_is g below) ∙ h)

  holds : (g : ℕ) → g < length groups → definitions_of (group_of (at g).group) ≡ map view.definition
      (type_group (at g)).ids
  holds g below = is.definitions g no_slot_group below

  -- each name in the table is that of a live slot

  lying : AreGroups 0 r gs (places_from 0 0 section)
  lying = groups_are 0 0 r section (λ i x below at_i.
      ap r (zero-add i) ∙ (is.slot_map.recs i below (x, at_i) ∙ sym (zero-add i)))

  live_member : (g u i : ℕ) → IsMember gs g u i → i < s.count
  live_member g u i m = let q = lying.is g u i m in omega (arith, q.1, q.2)

  grouped : (k : ℕ) → k < s.count → r k ≡ k → IsGrouped gs k
  grouped k below live =
      let q = lying.has k below (ap r (zero-add k) ∙ (live ∙ sym (zero-add k))) in
      (q.0, q.1, subst (IsMember gs q.0 q.1) (zero-add k) q.2)

  named_grouped : (i k : ℕ) → i < s.count → Names (view.definition i) k → IsGrouped gs k
  named_grouped i k below n =
      let b = named_before r (s.definition i) k n in
      let end = is.well_named.below_ends i below b.0 b.1 in
      let fits = (laid_out section).fits i below in
      let before : b.0 < s.count = omega (arith, end, fits) in
      let low = down s r is.slot_map b.0 before in
      let live = twice s r is.slot_map b.0 before in
      grouped k (omega (arith, low, before, b.2)) (ap r (sym b.2) ∙ (live ∙ b.2))

  -- the test for free groups

  abbrev free : ℕ → Bool
  free = is_free_at groups

  free_at : (a u i : ℕ) → free a ≡ true → IsMember gs a u i →
      IsFreeSlot view.definition (at a).first (at a).group i
  free_at a u i test m = free_slot view.definition (at a).first (at a).group (holds a (in_groups a u i m)) test
      u i (slot_at a u i m)

  free_group : (a u i : ℕ) → free a ≡ true → IsMember gs a u i → IsFreeGroup view a
  free_group a u i test m = record {
    implicit = ap (λ (w : TypeGroup). w.is_explicit) (group_is a (in_groups a u i m))
        ∙ (free_at a u i test m).implicit;
    own = λ v j mem k n x. (free_at a v j test mem).own k n;
  }

  from_free_group : (a : ℕ) → a < length groups → ((u i : ℕ) → IsMember gs a u i → IsFreeGroup view a) →
      free a ≡ true
  from_free_group a below each = from_free_slots view.definition (at a).first (at a).group (holds a below)
      (λ u i h.
      (let m : IsMember gs a u i = member_at a u i below h in let f : IsFreeGroup view a = each u i m in (
        ap (λ (w : TypeGroup). w.is_explicit) (sym (group_is a below)) ∙ f.implicit,
        λ k n. f.own u i m k n (named_grouped i k (live_member a u i m) n),
      )))

  -- the record that stands for a group

  record IsHead (g : ℕ) (x : EntryAt) : Type 0 where
    pub member : IsMember gs g 0 (at g).first
    pub defined : entry_definition x ≡ view.definition (at g).first

  headed : (g : ℕ) (x : EntryAt) → g < length groups → head_at groups g ≡ Some x → IsHead g x
  headed g x below h =
      let q = head_slot view.definition (at g).first (at g).group (holds g below) x h in
      record { member = member_at g 0 (at g).first below q.0; defined = q.1 }

  turned_round : (g h : ℕ) (x y : EntryAt) → IsHead g x → IsHead h y → IsInversion view g h →
      IsTurnedRound entry_cmp free g x h y
  turned_round g h x y a b tr = record {
    all_free = λ c low high.
        from_free_group c (omega (arith, high, in_groups h 0 (at h).first b.member)) (λ u i m.
        tr.free c low high u i m);
    less = entry_is y x ∙ (ap (λ (d : Definition). definition_cmp d (entry_definition x)) b.defined
        ∙ (ap (definition_cmp (view.definition (at h).first)) a.defined
        ∙ tr.less 0 (at g).first 0 (at h).first a.member b.member));
  }

  from_turned_round : (g h : ℕ) (x y : EntryAt) → IsHead g x → IsHead h y → g < h →
      IsTurnedRound entry_cmp free g x h y → IsInversion view g h
  from_turned_round g h x y a b lt tr =
      let free_g : free g ≡ true = tr.all_free g (omega arith) (omega (arith, lt)) in
      let free_h : free h ≡ true = tr.all_free h (omega (arith, lt)) (omega arith) in
      record {
        free = λ c low high u i m. free_group c u i (tr.all_free c low high) m;
        less = λ u i v j m m'.
            (let e : i ≡ (at g).first = (free_at g u i free_g m).lone in
            let f : j ≡ (at h).first = (free_at h v j free_h m').lone in
            ap (λ (n : ℕ). definition_cmp (view.definition n) (view.definition i)) f
            ∙ (ap (λ (n : ℕ). definition_cmp (view.definition (at h).first) (view.definition n)) e
            ∙ (ap (λ (d : Definition). definition_cmp d (view.definition (at g).first)) (sym b.defined)
            ∙ (ap (definition_cmp (entry_definition y)) (sym a.defined) ∙ (sym (entry_is y x) ∙ tr.less)))));
      }

  stands_from : (g h : ℕ) (x y : EntryAt) → IsHead g x → IsHead h y →
      StandsBefore entry_cmp free g x h y → IsWrittenBefore view g h
  stands_from g h x y a b (inl w) = inl (w.0, λ tr. w.1 (turned_round g h x y a b tr))
  stands_from g h x y a b (inr w) = inr (w.0, from_turned_round h g y x b a w.0 w.1)

  -- the test for written groups

  abbrev written : ℕ → Bool
  written = is_written_at groups

  below_written : (g : ℕ) → written g ≡ true → g < length groups
  below_written g test = elim (cases_lt g (length groups)) [
    | inl w ↦ w
    | inr w ↦ (let none : at g ≡ no_slot_group = get_or_past groups g no_slot_group (omega (arith, w)) in
        let k : false ≡ true = sym (ap (λ (x : SlotGroup). is_some (head x.group)) none) ∙ test in cc)
  ]

  is_written_from : (g : ℕ) → written g ≡ true → IsWritten view g
  is_written_from g test =
      let x = some_of (head_at groups g) test in
      let a = headed g x.0 (below_written g test) x.1 in (0, (at g).first, a.member, refl)

  is_written_to : (g : ℕ) → IsWritten view g → written g ≡ true
  is_written_to g w = has_head view.definition (at g).first (at g).group w.0 w.1 (slot_at g w.0 w.1 w.2)

  -- the order, from the groups that are written when they are sorted

  module _ (ps qs : List PendingGroup) (are : ArePending groups (length groups) ps)
      (perm : IsPermutation ps qs) where
    abbrev order : List ℕ
    order = places_of qs

    written_at : (a : ℕ) → a < length order → written (slice_index order a) ≡ true
    written_at a below = each_written (λ (p : PendingGroup). p.place) written (length groups) ps qs perm
        are.places a below

    onto_at : (g : ℕ) → IsWritten view g → (a : ℕ) × (a < length order) × (slice_index order a ≡ g)
    onto_at g w = onto_written (λ (p : PendingGroup). p.place) written (length groups) ps qs perm are.places g
        (in_groups g w.0 w.1 w.2) (is_written_to g w)

    head_of : (a : ℕ) (p : PendingGroup) → slice_get qs a ≡ Some p → head_at groups p.place ≡ Some p.head
    head_of a p h = (subst (IsPending groups) (get_or_from_slice_get qs a p p h)
        (All-permutation (IsPending groups) ps qs perm are.each a p (slice_get_within qs a p h))).head

    pub order_from_sort : ((a b : ℕ) → a < b → (p q : PendingGroup) → slice_get qs a ≡ Some p →
        slice_get qs b ≡ Some q → StandsBefore entry_cmp free p.place p.head q.place q.head) →
        IsWritingOrder view order
    order_from_sort sorted = record {
      written = λ a below. is_written_from (slice_index order a) (written_at a below);
      onto = onto_at;
      stands = λ a b less below.
          let many_q : length order ≡ length qs = length-map qs (λ (p : PendingGroup). p.place) in
          let p = at_place qs a (omega (arith, less, below, many_q)) in
          let q = at_place qs b (omega (arith, below, many_q)) in
          let g : slice_index order a ≡ p.0.place = place_at (λ (p : PendingGroup). p.place) written
          (length groups) ps qs perm are.places a p.0 p.1 in
          let h : slice_index order b ≡ q.0.place = place_at (λ (p : PendingGroup). p.place) written
          (length groups) ps qs perm are.places b q.0 q.1 in
          let below_g : p.0.place < length groups = below_written p.0.place
          (sym (ap written g) ∙ written_at a (omega (arith, less, below))) in
          let below_h : q.0.place < length groups = below_written q.0.place
          (sym (ap written h) ∙ written_at b below) in
          let before : IsWrittenBefore view p.0.place q.0.place =
          stands_from p.0.place q.0.place p.0.head q.0.head
          (headed p.0.place p.0.head below_g (head_of a p.0 p.1))
          (headed q.0.place q.0.head below_h (head_of b q.0 q.1)) (sorted a b less p.0 q.0 p.1 q.1) in
          subst (λ (x : ℕ). IsWrittenBefore view x (slice_index order b)) (sym g)
          (subst (IsWrittenBefore view p.0.place) (sym h) before);
    }
