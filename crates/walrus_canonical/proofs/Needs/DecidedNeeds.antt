-- Whether roots need an index can be decided.
use Rattle.std.proofs.Common.{ℕ, zero, suc, ◌+◌, ◌<◌, ◌≤◌, List, ◌⊎◌, inl, inr, Contains, arith}
use Rattle.std.proofs.lemmas.Bool.{cases_lt}
use Rattle.walrus_ty.specs.Definition.{Names, names_of}
use Rattle.walrus_ty.specs.Groups.{Section}
use Rattle.walrus_sections.specs.Section.{IndexSpace, index_space, NamesBelowEnds}
use Rattle.walrus_canonical.specs.EqualTypes.{IsInGroup}
use Rattle.walrus_canonical.specs.Listing.{IsNeeded, at_root, by_group, by_name}
use Rattle.walrus_canonical.proofs.Equality.Members.{mate_from, mate_to, in_group_or_not, own_member, member_within, group_end, named_outside}
use Rattle.walrus_canonical.proofs.Equality.Decisions.{Decided, some_below, contained_or_not}
use Rattle.walrus_canonical.proofs.Forms.Listings.{needed_below}

module _ (section : Section) (roots : List ℕ) (below : NamesBelowEnds (index_space section))
    (known : (root : ℕ) → Contains roots root → root < (index_space section).count) where
  abbrev s : IndexSpace
  s = index_space section

  abbrev Uses : ℕ → ℕ → ℕ → Type 0
  Uses i k user = IsNeeded s roots user × Names (s.definition user) k × (IsInGroup s i user → ⊥)

  -- k of the group of i is a root, or a needed type of another group names it
  abbrev IsWanted : ℕ → ℕ → Type 0
  IsWanted i k = Contains roots k ⊎ ((user : ℕ) × Uses i k user)

  abbrev Reason : ℕ → Type 0
  Reason i = (k : ℕ) × IsInGroup s i k × IsWanted i k

  needed_by : (i : ℕ) → i < s.count → Reason i → IsNeeded s roots i
  needed_by i h r =
      let own = own_member s i h in
      let wanted : IsNeeded s roots r.0 = elim r.2 [
        | inl c ↦ at_root r.0 c
        | inr u ↦ by_name u.0 r.0 u.1.0 u.1.1
      ] in
      by_group r.0 i wanted (own.0, mate_from s i r.1.0 r.0 own.0 i r.1.1 own.1)

  moved : (i j : ℕ) → IsInGroup s i j → Reason i → Reason j
  moved i j g r = (
    r.0,
    (r.1.0, mate_from s i g.0 j r.1.0 r.0 g.1 r.1.1),
    elim r.2 [
      | inl c ↦ inl c
      | inr u ↦ inr (
        u.0,
        (u.1.0, u.1.1, λ m. u.1.2 (m.0, mate_to s i g.0 j m.0 u.0 g.1 m.1)),
      )
    ],
  )

  within : (i : ℕ) → IsNeeded s roots i → i < s.count
  within i h = needed_below section roots below known i h

  back_to : (i j : ℕ) → i < s.count → IsInGroup s i j → IsInGroup s j i
  back_to i j h g = let own = own_member s i h in (own.0, mate_from s i g.0 j own.0 i g.1 own.1)

  reason_of : (i : ℕ) → IsNeeded s roots i → Reason i
  reason_of _ (at_root i c) = (i, own_member s i (known i c), inl c)
  reason_of _ (by_group mate i h g) = moved mate i g (reason_of mate h)
  reason_of _ (by_name user i h names) =
      let own = own_member s i (within i (by_name user i h names)) in
      elim (in_group_or_not s i own.0 user own.1) [
        | inl g ↦ moved user i (back_to i user (within i (by_name user i h names)) g) (reason_of user h)
        | inr outside ↦ (i, own, inr (user, (h, names, outside)))
      ]

  -- a type of another group that names one of the group is behind the group
  user_behind :
      (i k user : ℕ) → i < s.count → user < s.count → IsInGroup s i k →
      Names (s.definition user) k → (IsInGroup s i user → ⊥) → i < user
  user_behind i k user h hu g names outside =
      let own = own_member s user hu in
      let hk = member_within section i g.0 k g.1 in
      let not_in : IsInGroup s user k → ⊥ = λ m. outside (
        own.0,
        mate_to s i g.0 k own.0 user g.1
            (mate_from s user m.0 k own.0 user m.1 own.1),
      ) in
      let less : k < user = named_outside section user k below hu (user, own, names, not_in) in
      group_end section i g.0 k user h g.1 less hu not_in

  needed_from :
      (fuel i : ℕ) → s.count ≤ i + fuel → i < s.count → Decided (IsNeeded s roots i)
  needed_from zero i enough h = absurd (omega (arith, enough, h))
  needed_from (suc fuel) i enough h =
      let own = own_member s i h in
      let uses : (k user : ℕ) → IsInGroup s i k → user < s.count → Decided (Uses i k user) = λ k user g hu.
      elim (contained_or_not (names_of (s.definition user)) k) [
        | inr not_so ↦ inr (λ u. not_so u.1)
        | inl names ↦ elim (in_group_or_not s i own.0 user own.1) [
          | inl m ↦ inr (λ u. u.2 m)
          | inr outside ↦
              let less = user_behind i k user h hu g names outside in
              elim (needed_from fuel user (omega (arith, less, enough)) hu) [
                | inr not_so ↦ inr (λ u. not_so u.0)
                | inl needed ↦ inl (needed, names, outside)
              ]
        ]
      ] in
      let wants : (k : ℕ) → k < s.count → Decided (IsInGroup s i k × IsWanted i k) = λ k hk.
      elim (in_group_or_not s i own.0 k own.1) [
        | inr out ↦ inr (λ x. out x.0)
        | inl g ↦ elim (contained_or_not roots k) [
          | inl c ↦ inl (g, inl c)
          | inr not_so ↦ elim (some_below s.count (Uses i k) (λ user hu. uses k user g hu)) [
            | inl u ↦ inl (g, inr (u.0, u.2))
            | inr none ↦ inr (λ x. elim x.1 [
              | inl c ↦ not_so c
              | inr u ↦ none u.0 (within u.0 u.1.0) u.1
            ])
          ]
        ]
      ] in
      elim (some_below s.count (λ k. IsInGroup s i k × IsWanted i k) wants) [
        | inl x ↦ inl (needed_by i h (x.0, x.2.0, x.2.1))
        | inr none ↦ inr (λ n. (
            let r = reason_of i n in
            none r.0 (member_within section i r.1.0 r.0 r.1.1) (r.1, r.2)))
      ]

  pub needed_or_not : (i : ℕ) → Decided (IsNeeded s roots i)
  needed_or_not i = elim (cases_lt i s.count) [
    | inl h ↦ needed_from s.count i (omega arith) h
    | inr over ↦ inr (λ n. (omega (arith, over, within i n)))
  ]
