-- Groups that are written one after the other, each slot numbered when its group is written.
use Rattle.std.proofs.Common.{◌≡◌, ℕ, zero, suc, ◌+◌, ◌-◌, ◌<◌, ◌≤◌, ◌^◌, ◌⊎◌, inl, inr, List, [], ◌∷◌, ◌++◌, length, map, take, drop, slice_get, Contains, All, Some, refl, sym, ap, subst, ◌∙◌, arith, length-append, take-append-drop}
use Rattle.std.specs.List.{range_with_len, slice_index}
use Rattle.std.proofs.Math.Seq.{get_or-take, length-take-le}
use Rattle.std.proofs.lemmas.Bool.{cases_lt}
use Rattle.std.proofs.lemmas.Grind.{flat_map-append}
use Rattle.std.proofs.lemmas.List.{append-nil, get_or-map, length-map, map-append, take_all, take_more}
use Rattle.std.proofs.lemmas.List.Elements.{Contains-append_left}
use Rattle.std.proofs.lemmas.List.FromFn.{get_or-range_with_len, length-range_with_len}
use Rattle.std.proofs.lemmas.Option.{get_or_from_slice_get, slice_get-get_or, slice_get_within}
use Rattle.walrus_ty.specs.Groups.{Group, Section}
use Rattle.walrus_ty.specs.Records.{group_of, section_of}
use Rattle.walrus_ty.specs.declared.records.GroupAt.{GroupAt}
use Rattle.walrus_sections.specs.FirstError.{definitions_of}
use Rattle.walrus_sections.specs.NormalForm.{image}
use Rattle.walrus_sections.specs.SlotMap.{TypeGroup}
use Rattle.walrus_normal_form.specs.declared.slot_group.SlotGroup.{SlotGroup}
use Rattle.walrus_normal_form.specs.Steps.ReadSections.{no_slot_group, slot_group_at, type_group}
use Rattle.walrus_sections.specs.WritingOrders.{IsApart, ids_in}
use Rattle.walrus_normal_form.specs.Steps.WrittenRecords.{AreNumbered, GroupNames, NameSlotsBefore, groups_at, rename_group, slots_in}
use Rattle.walrus_normal_form.proofs.Writing.RenamedGroups.{map-agree, rename_group-agree, slots-consecutive}
use Rattle.walrus_ty.proofs.Basics.{slice_get-left, slice_get-parts, slice_get-right, some_inj}

abbrev pub renamed : List ℕ → SlotGroup → Group
renamed numbers g = rename_group (image numbers) (group_of g.group)

pub slots-append :
    (xs ys : List SlotGroup) → slots_in (xs ++ ys) ≡ slots_in xs ++ slots_in ys
slots-append xs ys = ap ids_in (map-append type_group xs ys)
    ∙ flat_map-append (λ (w : TypeGroup). w.ids) (map type_group xs) (map type_group ys)

-- what is numbered is numbered alike in both lists
same_image :
    (slots old new : List ℕ) (k : ℕ) → Contains slots k → AreNumbered slots old → AreNumbered slots new →
    image old k ≡ image new k
same_image slots old new k c is_old is_new =
    let at : slice_get slots c.0 ≡ Some k = slice_get-get_or slots c.0 k c.1 ∙ ap (λ (n : ℕ). Some n) c.2 in
    get_or_from_slice_get old k c.0 0 (is_old c.0 k at)
    ∙ sym (get_or_from_slice_get new k c.0 0 (is_new c.0 k at))

take_split :
    (gs : List SlotGroup) (n i : ℕ) → n ≤ i → (rest : List SlotGroup) × (take i gs ≡ take n gs ++ rest)
take_split [] zero zero le = ([], refl)
take_split [] zero (suc i) le = ([], refl)
take_split [] (suc n) zero le = ([], refl)
take_split [] (suc n) (suc i) le = ([], refl)
take_split (g ∷ gs) zero i le = (take i (g ∷ gs), refl)
take_split (g ∷ gs) (suc n) zero le = absurd (omega (arith, le))
take_split (g ∷ gs) (suc n) (suc i) le =
    let r = take_split gs n i (omega (arith, le)) in (r.0, ap (λ (xs : List SlotGroup). g ∷ xs) r.1)

module _ (gs : List SlotGroup) (i : ℕ) (g : SlotGroup) (below : i < length gs)
    (at : slot_group_at gs i ≡ g) where
  abbrev done : List ℕ
  done = slots_in (take i gs)

  abbrev count : ℕ
  count = length (definitions_of (group_of g.group))

  abbrev own : List ℕ
  own = range_with_len g.first count

  more : take (i + 1) gs ≡ take i gs ++ g ∷ []
  more = take_more gs i no_slot_group below ∙ ap (λ (x : SlotGroup). take i gs ++ x ∷ []) at

  known : slots_in (take (i + 1) gs) ≡ done ++ own
  known = ap slots_in more ∙ (slots-append (take i gs) (g ∷ [])
      ∙ ap (λ (xs : List ℕ). done ++ xs) (append-nil (type_group g).ids
      ∙ slots-consecutive g.first (group_of g.group)))

  all : slots_in gs ≡ (done ++ own) ++ slots_in (drop (i + 1) gs)
  all = ap slots_in (sym (take-append-drop (i + 1) gs))
      ∙ (slots-append (take (i + 1) gs) (drop (i + 1) gs)
      ∙ ap (λ (xs : List ℕ). xs ++ slots_in (drop (i + 1) gs)) known)

  pub next_is : length (slots_in (take (i + 1) gs)) ≡ length done + count
  next_is = ap length known ∙ (length-append done own
      ∙ ap (λ (n : ℕ). length done + n) (length-range_with_len g.first count))

  own_at : (t : ℕ) → t < count → slice_get own t ≡ Some (g.first + t)
  own_at t lt = slice_get-get_or own t 0 (omega (arith, lt, length-range_with_len g.first count))
      ∙ ap (λ (n : ℕ). Some n) (get_or-range_with_len g.first count t 0 lt)

  slot_at : (t : ℕ) → t < count → slice_get (slots_in gs) (length done + t) ≡ Some (g.first + t)
  slot_at t lt = ap (λ (xs : List ℕ). slice_get xs (length done + t)) all
      ∙ slice_get-left (done ++ own) (slots_in (drop (i + 1) gs)) (length done + t) (g.first + t)
      (slice_get-right done own t (g.first + t) (own_at t lt))

  done_at : (k slot : ℕ) → slice_get done k ≡ Some slot → slice_get (slots_in gs) k ≡ Some slot
  done_at k slot h = ap (λ (xs : List ℕ). slice_get xs k) all
      ∙ slice_get-left (done ++ own) (slots_in (drop (i + 1) gs)) k slot (slice_get-left done own k slot h)

  pub all_within :
      (n : ℕ) → All (λ slot. slot < n) (slots_in gs) → (t : ℕ) → t < count → g.first + t < n
  all_within n each t lt =
      let there = slot_at t lt in
      subst (λ (x : ℕ). x < n) (get_or_from_slice_get (slots_in gs) (length done + t) (g.first + t) 0 there)
      (each (length done + t) 0 (slice_get_within (slots_in gs) (length done + t) (g.first + t) there))

  pub few_more : length (slots_in gs) < 2 ^ 32 → length done + count < 2 ^ 32
  few_more few = omega (
    arith,
    few,
    ap length all,
    length-append (done ++ own) (slots_in (drop (i + 1) gs)),
    length-append done own,
    length-range_with_len g.first count,
  )

  module _ (apart : IsApart (slots_in gs)) (old new : List ℕ) (so_far : AreNumbered done old)
      (given : (t : ℕ) → t < count → slice_get new (g.first + t) ≡ Some (length done + t))
      (kept : (s : ℕ) → (s < g.first) ⊎ (g.first + count ≤ s) → slice_get new s ≡ slice_get old s) where
    outside : (k slot : ℕ) → slice_get done k ≡ Some slot → (slot < g.first) ⊎ (g.first + count ≤ slot)
    outside k slot h = elim (cases_lt slot g.first) [
      | inl x ↦ inl x
      | inr x ↦ (elim (cases_lt slot (g.first + count)) [
        | inr y ↦ inr (omega (arith, y))
        | inl y ↦ (
            let t : (t : ℕ) × (slot ≡ g.first + t) = (slot - g.first, omega (arith, x)) in
            let same : k ≡ length done + t.0 = apart k (length done + t.0) slot (done_at k slot h)
            (slot_at t.0 (omega (arith, t.1, y)) ∙ ap (λ (n : ℕ). Some n) (sym t.1)) in
            absurd (omega (arith, same, slice_get_within done k slot h)))
      ])
    ]

    numbered_parts : (k slot : ℕ) → slice_get (done ++ own) k ≡ Some slot → slice_get new slot ≡ Some k
    numbered_parts k slot h = elim (slice_get-parts done own k slot h) [
      | inl x ↦ kept slot (outside k slot x) ∙ so_far k slot x
      | inr x ↦ (
          let lt : x.0 < count = omega (
            arith,
            slice_get_within own x.0 slot x.2,
            length-range_with_len g.first count,
          ) in
          let is : g.first + x.0 ≡ slot = some_inj (sym (own_at x.0 lt) ∙ x.2) in
          ap (slice_get new) (sym is) ∙ (given x.0 lt ∙ ap (λ (n : ℕ). Some n) (sym x.1)))
    ]

    pub numbered_more : AreNumbered (slots_in (take (i + 1) gs)) new
    numbered_more k slot h = numbered_parts k slot (ap (λ (xs : List ℕ). slice_get xs k) (sym known) ∙ h)

    old_still : AreNumbered done new
    old_still k slot h = numbered_parts k slot (slice_get-left done own k slot h)

    module _ (named : NameSlotsBefore gs) where
      earlier_named : (a k : ℕ) → a < i → Contains (slots_in (take (a + 1) gs)) k → Contains done k
      earlier_named a k lt c =
          let r = take_split gs (a + 1) i (omega (arith, lt)) in
          let both : done ≡ slots_in (take (a + 1) gs) ++ slots_in r.0 =
          ap slots_in r.1 ∙ slots-append (take (a + 1) gs) r.0 in
          subst (λ (xs : List ℕ). Contains xs k) (sym both)
          (Contains-append_left (slots_in (take (a + 1) gs)) (slots_in r.0) k c)

      still : map (renamed old) (take i gs) ≡ map (renamed new) (take i gs)
      still = map-agree (renamed old) (renamed new) (take i gs) (λ a lt.
          let short : a < i = omega (arith, lt, length-take-le i gs (omega (arith, below))) in
          let is : slot_group_at (take i gs) a ≡ slot_group_at gs a =
          get_or-take i gs a no_slot_group short in
          rename_group-agree (image old) (image new) (group_of (slot_group_at (take i gs) a).group) (λ k n.
          same_image done old new k (earlier_named a k short (named a k (omega (arith, short, below))
          (subst (λ (x : SlotGroup). GroupNames (group_of x.group) k) is n))) so_far old_still))

      pub renamed_more :
          (out : List GroupAt) (record_ : GroupAt) → section_of out ≡ map (renamed old) (take i gs) →
          group_of record_ ≡ renamed new g →
          section_of (out ++ record_ ∷ []) ≡ map (renamed new) (take (i + 1) gs)
      renamed_more out record_ so_far_out is =
          map-append group_of out (record_ ∷ [])
          ∙ (ap (λ (s : Section). s ++ group_of record_ ∷ []) (so_far_out ∙ still)
          ∙ (ap (λ x. map (renamed new) (take i gs) ++ x ∷ []) is
          ∙ (sym (map-append (renamed new) (take i gs) (g ∷ []))
          ∙ ap (map (renamed new)) (sym more))))

-- the first i groups are all of them
pub all_groups :
    (groups : List SlotGroup) (places : List ℕ) (i : ℕ) → length places ≤ i →
    take i (groups_at groups places) ≡ groups_at groups places
all_groups groups places i le =
    take_all i (groups_at groups places) (omega (arith, le, length-map places (slot_group_at groups)))

-- groups at places of a list, where the groups before the i-th of them were taken out
module _ (groups left : List SlotGroup) (places : List ℕ) (i : ℕ) (below : i < length places)
    (same : (a : ℕ) → i ≤ a → a < length places →
    slot_group_at left (slice_index places a) ≡ slot_group_at groups (slice_index places a)) where
  pub place_below : i < length (groups_at groups places)
  place_below = omega (arith, below, length-map places (slot_group_at groups))

  pub group_taken :
      (g : SlotGroup) → g ≡ slot_group_at left (slice_index places i) →
      slot_group_at (groups_at groups places) i ≡ g
  group_taken g is = get_or-map (slot_group_at groups) places i 0 no_slot_group below
      ∙ (sym (same i (omega arith) below) ∙ sym is)

  pub left_more :
      IsApart places → (rest : List SlotGroup) →
      ((p : ℕ) → ¬ (p ≡ slice_index places i) → slot_group_at rest p ≡ slot_group_at left p) →
      (a : ℕ) → i + 1 ≤ a → a < length places →
      slot_group_at rest (slice_index places a) ≡ slot_group_at groups (slice_index places a)
  left_more distinct rest others a le lt =
      others (slice_index places a) (λ e.
      (let z : a ≡ i = distinct a i (slice_index places i)
      (slice_get-get_or places a 0 lt ∙ ap (λ (n : ℕ). Some n) e) (slice_get-get_or places i 0 below) in
      omega (arith, z, le))) ∙ same a (omega (arith, le)) lt
