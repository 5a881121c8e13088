-- The members of the groups of a read section: its live slots.
use Rattle.std.proofs.Common.{◌≡◌, ℕ, zero, ◌+◌, ◌<◌, ◌∙◌, inl, inr, List, map, length, get_or, sym, ap, subst, arith, false, ◌≤◌}
use Rattle.std.proofs.lemmas.{Bool.cases_lt, Bool.cases_eq, List.ext_get_or, List.get_or-map, List.length-map, List.FromFn.length-map-range_with_len, List.FromFn.get_or-map-range_with_len, Option.slice_get-get_or}
use Rattle.walrus_ty.specs.Groups.{Section}
use Rattle.walrus_sections.specs.{Section.index_space, Section.places_from, NormalForm.image, SlotMap.IsSlotMap, SlotMap.TypeGroup, SlotMap.read_groups, Emission.group_at, Emission.IsMember}
use Rattle.walrus_sections.proofs.Sections.Rows.{at}
use Rattle.walrus_sections.proofs.Emission.{Groups.AreGroups, Groups.Kind, Groups.groups, Emits.slots_through, PairsOfGroups.to_member}

none : (i : ℕ) → zero + i ≡ i
none i = omega arith

module _ (s : Section) (r : ℕ → ℕ) (d : IsSlotMap (index_space s) r) where
  abbrev S : List TypeGroup
  S = read_groups 0 r s

  all : AreGroups 0 r S (places_from 0 0 s)
  all = groups 0 0 r s (λ i x h o. ap r (none i) ∙ (d.recs i h (x, o) ∙ sym (none i)))

  pub member_is : (g u x : ℕ) → IsMember S g u x → (x < (index_space s).count) × (r x ≡ x)
      × Kind (group_at S g) (at (places_from 0 0 s) x) u
  member_is g u x m =
      let q = all.is g u x m in
      let q1 = q.1 in let q2 = q.2 in
      let e : q.0 ≡ x = omega arith in
      (omega arith, q.3, subst (λ (j : ℕ). Kind (group_at S g) (at (places_from 0 0 s) j) u) e q.4)

  pub member_of : (i : ℕ) → i < (index_space s).count → r i ≡ i → (g : ℕ) × (u : ℕ) × IsMember S g u i
  member_of i h v =
      let m = all.has i h (ap r (none i) ∙ (v ∙ sym (none i))) in
      (m.0, m.1, subst (IsMember S m.0 m.1) (none i) m.2)

  -- a slot is in one group, at one place
  pub same_member : (g u h v i : ℕ) → IsMember S g u i → IsMember S h v i → (g ≡ h) × (u ≡ v)
  same_member g u h v i m m' = elim (cases_lt g h) [
    | inl x ↦ absurd (omega (arith, all.rise g u i h v i x m m'))
    | inr x ↦ (elim (cases_eq g h) [
      | inl y ↦ (
        y,
        (let z = all.inner g u i v i m (subst (λ (n : ℕ). IsMember S n v i) (sym y) m') in omega arith),
      )
      | inr y ↦ absurd (omega (arith, all.rise h v i g u i (omega (arith, x, y)) m' m))
    ])
  ]

  -- a group that isn't explicit has one slot at most
  pub single : (g : ℕ) → (group_at S g).is_explicit ≡ false → length (group_at S g).ids ≤ 1
  single g e = elim (cases_lt 1 (length (group_at S g).ids)) [
    | inr x ↦ omega (arith, x)
    | inl x ↦ (
        let i : ℕ = get_or (group_at S g).ids 1 0 in
        let m : IsMember S g 1 i = to_member S g 1 i (slice_get-get_or (group_at S g).ids 1 0 x) in
        absurd (elim (member_is g 1 i m).2 [ inl y ↦ (let z = y.0 in cc) | inr y ↦ omega (arith, y.2) ]))
  ]

-- what the slots are sent to is where the indices go
pub sent_by_slots :
    (s : Section) (slots : List ℕ) → length slots ≡ (index_space s).count → (f : ℕ → ℕ) →
    map f slots ≡ slots_through s (image slots) f
sent_by_slots s slots one_each f =
    ext_get_or 0 (map f slots) (slots_through s (image slots) f) (length-map slots f ∙ one_each
    ∙ sym (length-map-range_with_len (λ i. f (image slots i)) 0 (index_space s).count))
    (λ i below.
    let within : i < length slots = omega (arith, below, length-map slots f) in
    get_or-map f slots i 0 0 within ∙ sym (get_or-map-range_with_len (λ i. f (image slots i)) 0
    (index_space s).count i i 0 (omega (arith, within, one_each)) (none i)))
