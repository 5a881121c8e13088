-- The records of each class are put at its place, one list after the other.
use Rattle.std.proofs.Common.{◌≡◌, ℕ, zero, suc, ◌<◌, ◌≤◌, List, [], ◌∷◌, length, map, refl, sym, ap, ◌∙◌, arith, Some, ◌⊎◌, inl, inr, slice_get, slice_set, Contains}
use Rattle.std.specs.List.{IsDistinct}
use Rattle.std.specs.Map.{keys_of}
use Rattle.std.specs.Cmp.Lexicographic.{lists_equiv}
use Rattle.std.proofs.Math.Seq.{map-set_same}
use Rattle.std.proofs.lemmas.Bool.{cases_eq, cases_lt}
use Rattle.std.proofs.lemmas.Map.Entries.{place_from_lookup, lookup_from_place}
use Rattle.std.proofs.lemmas.Option.{same_Some, slice_get_within, slice_get-get_or, get_or_from_slice_get}
use Rattle.walrus_ty.specs.contracts.records.EntryAtEq.TheImpl.Laws.{laws-law}
use Rattle.walrus_ty.specs.declared.records.EntryAt.{EntryAt}
use Rattle.walrus_canonical.specs.declared.classes.Class.{Class}
use Rattle.walrus_canonical.specs.Steps.Classes.{class_at_place}
use Rattle.walrus_canonical.specs.Steps.KnownClasses.{are_same, place_of, same_keys}
use Rattle.walrus_canonical.proofs.Reading.Containing.{contained_first, contained_later, contained_cases}

set_there :
    {X : Type 0} (xs : List X) (i : ℕ) (x : X) → i < length xs → slice_get (slice_set xs i x) i ≡ Some x
set_there [] i x h = absurd (omega (arith, h))
set_there (y ∷ xs) zero x h = refl
set_there (y ∷ xs) (suc i) x h = set_there xs i x (omega (arith, h))

pub set_elsewhere :
    {X : Type 0} (xs : List X) (i k : ℕ) (x : X) → ¬ (k ≡ i) →
    slice_get (slice_set xs i x) k ≡ slice_get xs k
set_elsewhere [] i k x h = refl
set_elsewhere (y ∷ xs) zero zero x h = absurd (h refl)
set_elsewhere (y ∷ xs) zero (suc k) x h = refl
set_elsewhere (y ∷ xs) (suc i) zero x h = refl
set_elsewhere (y ∷ xs) (suc i) (suc k) x h = set_elsewhere xs i k x (λ e. h (ap suc e))

abbrev firsts : List Class → List ℕ
firsts classes = map (λ (c : Class). c.first) classes

-- each class that the map has a key for has its records, or they are in the list that is left
pub record LackRecords (known : List (List EntryAt × ℕ)) (classes : List Class)
    (left : List (List EntryAt × ℕ)) : Type 0 where
  pub own : (es : List EntryAt) (c : ℕ) → Contains left (es, c) → place_of known es ≡ Some c
  pub others :
      (c : ℕ) (class : Class) → slice_get classes c ≡ Some class → (es : List EntryAt) →
      place_of known es ≡ Some c →
      (place_of known class.entries ≡ Some c) ⊎ ((fs : List EntryAt) × Contains left (fs, c))

-- at first all are left
pub all_lack :
    (known : List (List EntryAt × ℕ)) (classes : List Class) → IsDistinct same_keys (keys_of known) →
    LackRecords known classes known
all_lack known classes distinct = record {
  own = λ es c m. lookup_from_place (lists_equiv laws-law) known m.0 es c distinct
      (slice_get-get_or known m.0 (es, c) m.1 ∙ ap (λ (e : List EntryAt × ℕ). Some e) m.2);
  others = λ c class is es at. (
      let p = place_from_lookup (are_same es) known c at in
      inr (
        p.1,
        (
          p.0,
          slice_get_within known p.0 (p.1, c) p.2,
          get_or_from_slice_get known p.0 (p.1, c) (p.1, c) p.2,
        ),
      ));
}

module _ (known : List (List EntryAt × ℕ)) (classes after : List Class) (es : List EntryAt) (place : ℕ)
    (rest : List (List EntryAt × ℕ)) (lack : LackRecords known classes ((es, place) ∷ rest))
    (put : place < length classes → after ≡ slice_set classes place
    (record { first = (class_at_place classes place).first; entries = es }))
    (stays : length classes ≤ place → after ≡ classes) where
  abbrev new : Class
  new = record { first = (class_at_place classes place).first; entries = es }

  pub firsts_stay : firsts after ≡ firsts classes
  firsts_stay = elim (cases_lt place (length classes)) [
    | inl low ↦ ap firsts (put low) ∙ map-set_same (λ (k : Class). k.first) classes place new
        (record { first = 0; entries = [] }) refl
    | inr over ↦ ap firsts (stays over)
  ]

  at_place : (class : Class) → slice_get after place ≡ Some class → class ≡ new
  at_place class is = elim (cases_lt place (length classes)) [
    | inl low ↦ same_Some class new
        (sym is ∙ (ap (λ (cs : List Class). slice_get cs place) (put low) ∙ set_there classes place new low))
    | inr over ↦ absurd (
        let z = slice_get_within classes place class
        (ap (λ (cs : List Class). slice_get cs place) (sym (stays over)) ∙ is) in omega (arith, over, z))
  ]

  elsewhere : (c : ℕ) → ¬ (c ≡ place) → slice_get after c ≡ slice_get classes c
  elsewhere c other = elim (cases_lt place (length classes)) [
    | inl low ↦ ap (λ (cs : List Class). slice_get cs c) (put low) ∙ set_elsewhere classes place c new other
    | inr over ↦ ap (λ (cs : List Class). slice_get cs c) (stays over)
  ]

  pub one_less : LackRecords known after rest
  one_less = record {
    own = λ fs c m. lack.own fs c (contained_later rest (es, place) (fs, c) m);
    others = λ c class is fs at. elim (cases_eq c place) [
      | inl same ↦ inl (
          let new_is = at_place class (ap (slice_get after) (sym same) ∙ is) in
          ap (λ (k : Class). place_of known k.entries) new_is
          ∙ (lack.own es place (contained_first rest (es, place)) ∙ ap (λ (n : ℕ). Some n) (sym same)))
      | inr other ↦ elim (lack.others c class (sym (elsewhere c other) ∙ is) fs at) [
        | inl w ↦ inl w
        | inr w ↦ inr (
          w.0,
          elim (contained_cases rest (es, place) (w.0, c) w.1) [
            | inl e ↦ absurd (other (sym (ap (λ (x : List EntryAt × ℕ). x.1) e)))
            | inr m ↦ m
          ],
        )
      ]
    ];
  }

-- in the end none is left
pub none_lack :
    (known : List (List EntryAt × ℕ)) (classes : List Class) → LackRecords known classes [] →
    (c : ℕ) (class : Class) → slice_get classes c ≡ Some class →
    ((es : List EntryAt) × (place_of known es ≡ Some c)) → place_of known class.entries ≡ Some c
none_lack known classes lack c class is e = elim (lack.others c class is e.0 e.1) [
  | inl w ↦ w
  | inr w ↦ absurd (omega (arith, w.1.1))
]
