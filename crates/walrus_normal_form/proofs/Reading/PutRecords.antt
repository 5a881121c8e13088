-- The records of lone types are put into their groups, one after the other.
use Rattle.std.proofs.Common.{◌≡◌, ℕ, zero, suc, ◌<◌, List, [], ◌∷◌, length, get_or, map, refl, sym, ap, subst, ◌∙◌, arith, Some, ◌⊎◌, inl, inr, slice_set, Contains}
use Rattle.std.specs.List.{slice_get, IsDistinct}
use Rattle.std.specs.Map.{keys_of}
use Rattle.std.proofs.lemmas.Bool.{cases_eq}
use Rattle.std.proofs.lemmas.List.{map-set, set-get_or, get_or-map}
use Rattle.std.proofs.lemmas.Map.Entries.{place_from_lookup, lookup_from_place}
use Rattle.std.proofs.lemmas.Option.{slice_get_within, slice_get-get_or, get_or_from_slice_get}
use Rattle.walrus_ty.specs.contracts.records.EntryAtEq.TheImpl.Laws.{laws-law}
use Rattle.walrus_ty.specs.contracts.records.EntryAtPartialEq.TheImpl as equality
use Rattle.walrus_ty.specs.declared.records.EntryAt.{EntryAt}
use Rattle.walrus_ty.specs.declared.records.GroupAt.{GroupAt}
use Rattle.walrus_ty.specs.declared.records.GroupAt.TheVariants.{Single, Rec}
use Rattle.walrus_ty.specs.Groups.{Section}
use Rattle.walrus_ty.proofs.Basics.{some_inj}
use Rattle.walrus_normal_form.specs.declared.slot_group.SlotGroup.{SlotGroup}
use Rattle.walrus_normal_form.specs.Steps.ReadSections.{no_slot_group}
use Rattle.walrus_normal_form.specs.Steps.SectionReaders.{IsReadSoFar, IsLoneAt, place_of}
use Rattle.walrus_normal_form.proofs.Reading.Places.{same-at-place, same-length}

abbrev first : SlotGroup → ℕ
first g = g.first

-- the groups are `whole`, but for some lone types, whose records are in the list with their places
pub record LacksRecords (whole groups : List SlotGroup) (lone : List (EntryAt × ℕ)) : Type 0 where
  pub firsts : map first groups ≡ map first whole
  pub own : (entry : EntryAt) (place : ℕ) → Contains lone (entry, place) → IsLoneAt whole place entry
  pub others :
      (place : ℕ) (g : SlotGroup) → slice_get whole place ≡ Some g →
      (slice_get groups place ≡ Some g) ⊎ ((entry : EntryAt) × Contains lone (entry, place))

-- lists that are the same at each place of the first are the same where they are as long
same_items :
    {X : Type 0} (xs ys : List X) → length xs ≡ length ys →
    ((k : ℕ) (y : X) → slice_get ys k ≡ Some y → slice_get xs k ≡ Some y) → xs ≡ ys
same_items [] [] n h = refl
same_items [] (y ∷ ys) n h = absurd (omega (arith, n))
same_items (x ∷ xs) [] n h = absurd (omega (arith, n))
same_items (x ∷ xs) (y ∷ ys) n h =
    ap (λ z. z ∷ xs) (some_inj (h 0 y refl))
    ∙ ap (λ zs. y ∷ zs) (same_items xs ys (omega (arith, n)) (λ k z. h (suc k) z))

set_there :
    {X : Type 0} (xs : List X) (i : ℕ) (x : X) → i < length xs → slice_get (slice_set xs i x) i ≡ Some x
set_there [] i x h = absurd (omega (arith, h))
set_there (y ∷ xs) zero x h = refl
set_there (y ∷ xs) (suc i) x h = set_there xs i x (omega (arith, h))

set_elsewhere :
    {X : Type 0} (xs : List X) (i k : ℕ) (x : X) → ¬ (k ≡ i) →
    slice_get (slice_set xs i x) k ≡ slice_get xs k
set_elsewhere [] i k x h = refl
set_elsewhere (y ∷ xs) zero zero x h = absurd (h refl)
set_elsewhere (y ∷ xs) zero (suc k) x h = refl
set_elsewhere (y ∷ xs) (suc i) zero x h = refl
set_elsewhere (y ∷ xs) (suc i) (suc k) x h = set_elsewhere xs i k x (λ e. h (ap suc e))

contained_first : {X : Type 0} (xs : List X) (x : X) → Contains (x ∷ xs) x
contained_first xs x = (0, omega arith, refl)

contained_later : {X : Type 0} (xs : List X) (x y : X) → Contains xs y → Contains (x ∷ xs) y
contained_later xs x y c = let w = c.1 in (suc c.0, omega arith, c.2)

contained_cases : {X : Type 0} (xs : List X) (x y : X) → Contains (x ∷ xs) y → (x ≡ y) ⊎ Contains xs y
contained_cases xs x y (zero, w, e) = inl e
contained_cases xs x y (suc k, w, e) = inr (k, omega (arith, w), e)

-- with the group as it is in the whole list at first
same_group : (a b : ℕ) (g : GroupAt) → a ≡ b →
    (let x : SlotGroup = record { first = a; group = g } in x) ≡ record { first = b; group = g }
same_group a b g e = ap (λ (x : ℕ). record { first = x; group = g }) e

module _ (whole groups : List SlotGroup) where
  -- at first each record of the map is missing
  pub at_first :
      (s : Section) (slots : List ℕ) (lone : List (EntryAt × ℕ)) (is : IsReadSoFar s slots groups lone) →
      is.whole ≡ whole → IsDistinct (equality.ghosts).eq (keys_of lone) → LacksRecords whole groups lone
  at_first s slots lone is same distinct = record {
    firsts = is.firsts ∙ ap (map first) same;
    own = λ entry place c. subst (λ (gs : List SlotGroup). IsLoneAt gs place entry) same
        ((is.lone_places entry place).0 (found entry place c));
    others = λ place g h. by_group place g.first g.group
        (ap (λ (gs : List SlotGroup). slice_get gs place) same ∙ h);
  }
    where
      found : (entry : EntryAt) (place : ℕ) → Contains lone (entry, place) →
          place_of lone entry ≡ Some place
      found entry place c = lookup_from_place laws-law lone c.0 entry place distinct
          (slice_get-get_or lone c.0 (entry, place) c.1 ∙ ap (λ (e : EntryAt × ℕ). Some e) c.2)

      by_group : (place f : ℕ) (g : GroupAt) →
          slice_get is.whole place ≡ Some (record { first = f; group = g }) →
          (slice_get groups place ≡ Some (record { first = f; group = g }))
          ⊎ ((entry : EntryAt) × Contains lone (entry, place))
      by_group place f (Rec es) h = inl (is.recs place (record { first = f; group = Rec es }) (es, h, refl))
      by_group place f (Single e) h =
          let at = place_from_lookup ((equality.ghosts).eq e) lone place
          ((is.lone_places e place).1 (f, h)) in
          inr (
            at.1,
            (
              at.0,
              slice_get_within lone at.0 (at.1, place) at.2,
              get_or_from_slice_get lone at.0 (at.1, place) (at.1, place) at.2,
            ),
          )

  module _ (entry : EntryAt) (place : ℕ) (rest : List (EntryAt × ℕ))
      (lacks : LacksRecords whole groups ((entry, place) ∷ rest)) where
    at : IsLoneAt whole place entry
    at = lacks.own entry place (contained_first rest (entry, place))

    pub place_below : place < length groups
    place_below = let m = same-length first groups whole lacks.firsts in
        let w = slice_get_within whole place (record { first = at.0; group = Single entry }) at.1 in
        omega arith

    abbrev here : SlotGroup
    here = get_or groups place no_slot_group

    abbrev put : SlotGroup
    put = record { first = here.first; group = Single entry }

    put_is : Some put ≡ slice_get whole place
    put_is = ap (λ (g : SlotGroup). Some g) (same_group here.first at.0 (Single entry)
        (same-at-place first groups whole place here (record { first = at.0; group = Single entry })
        lacks.firsts (slice_get-get_or groups place no_slot_group place_below) at.1)) ∙ sym at.1

    -- one record is put into its group
    pub one_put : LacksRecords whole (slice_set groups place put) rest
    one_put = record {
      firsts = map-set first groups place put ∙ (firsts_same ∙ lacks.firsts);
      own = λ e p c. lacks.own e p (contained_later rest (entry, place) (e, p) c);
      others = λ p g h. elim (cases_eq p place) [
        | inl same ↦ inl (ap (slice_get (slice_set groups place put)) same
            ∙ (set_there groups place put place_below ∙ (put_is ∙ (ap (slice_get whole) (sym same) ∙ h))))
        | inr other ↦ (elim (lacks.others p g h) [
          | inl w ↦ inl (set_elsewhere groups place p put other ∙ w)
          | inr w ↦ inr (
            w.0,
            elim (contained_cases rest (entry, place) (w.0, p) w.1) [
              | inl e ↦ absurd (other (sym (ap (λ (x : EntryAt × ℕ). x.1) e)))
              | inr c ↦ c
            ],
          )
        ])
      ];
    }
      where
        firsts_same : slice_set (map first groups) place here.first ≡ map first groups
        firsts_same = ap (slice_set (map first groups) place)
            (sym (get_or-map first groups place no_slot_group 0 place_below))
            ∙ set-get_or (map first groups) place 0

  -- where no record is left, no group lacks one
  pub none_lacks : LacksRecords whole groups [] → groups ≡ whole
  none_lacks lacks = same_items groups whole (same-length first groups whole lacks.firsts) there
    where
      there : (p : ℕ) (g : SlotGroup) → slice_get whole p ≡ Some g → slice_get groups p ≡ Some g
      there p g h = elim (lacks.others p g h) [
        | inl w ↦ w
        | inr w ↦ absurd (let b = w.1.1 in omega arith)
      ]
