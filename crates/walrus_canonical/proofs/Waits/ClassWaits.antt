-- The waits of classes, and how many there are.
use Rattle.std.proofs.Common.{◌≡◌, ℕ, zero, suc, Bool, true, false, ◌+◌, ◌<◌, ◌≤◌, List, [], ◌∷◌, ◌++◌, length, length-append, take, slice_get, Some, ◌⊎◌, inl, inr, ◌∙◌, refl, sym, ap, subst, cond, nat_lt, Contains, append_assoc, append-nil, arith}
use Rattle.std.specs.List.Sorted.{IsNonDecreasingBy}
use Rattle.std.proofs.lemmas.Bool.{cases_lt}
use Rattle.std.proofs.lemmas.Bool.Decides.{nat_tests}
use Rattle.std.proofs.lemmas.List.Elements.{Contains-append_left, Contains-append_right, Contains-append_cases}
use Rattle.std.proofs.lemmas.List.Sorted.{Contains-permutation, IsPermutation-sym}
use Rattle.std.proofs.lemmas.Option.{same_Some, slice_get_within, get_or_from_slice_get}
use Rattle.walrus_canonical.specs.declared.classes.Class.{Class}
use Rattle.walrus_canonical.specs.declared.waiting.Wait.{Wait}
use Rattle.walrus_canonical.specs.Steps.Shown.{own_base}
use Rattle.walrus_canonical.specs.Steps.Waits.{wait_at, names_in, class_waits, waits_from, AreStarts, AreWaits}
use Rattle.walrus_canonical.proofs.Reading.Containing.{contained_first, contained_cases, contained_none, in_flat, flat_in}

-- ---- one class more

more_from :
    (cs : List Class) (n at place : ℕ) (class : Class) → slice_get cs at ≡ Some class → place ≡ n + at →
    waits_from n (take (suc at) cs) ≡ waits_from n (take at cs) ++ class_waits place class
more_from [] n at place class e p = absurd cc
more_from (c ∷ cs) n zero place class e p =
    let same : c ≡ class = same_Some c class e in
    let here : n ≡ place = omega (arith, p) in
    ap (λ (k : Class). class_waits n k ++ []) same
    ∙ (append-nil (class_waits n class) ∙ ap (λ (m : ℕ). class_waits m class) here)
more_from (c ∷ cs) n (suc at) place class e p =
    ap (λ (ws : List Wait). class_waits n c ++ ws) (more_from cs (suc n) at place class e (omega (arith, p)))
    ∙ sym (append_assoc (class_waits n c) (waits_from (suc n) (take at cs)) (class_waits place class))

pub waits_one_more :
    (cs : List Class) (at : ℕ) (class : Class) → slice_get cs at ≡ Some class →
    waits_from 0 (take (at + 1) cs) ≡ waits_from 0 (take at cs) ++ class_waits at class
waits_one_more cs at class e =
    let z : at + 1 ≡ suc at = omega arith in
    ap (λ (n : ℕ). waits_from 0 (take n cs)) z ∙ more_from cs 0 at at class e (omega arith)

-- ---- which waits there are

at_name : (base place name : ℕ) (w : Wait) → Contains (wait_at base place name) w →
    (w.named ≡ name) × (w.waiting ≡ place) × (name < base)
at_name base place name w c = go (nat_lt name base) refl c
  where
    go : (b : Bool) → nat_lt name base ≡ b →
        Contains (cond b (record { named = name; waiting = place } ∷ []) []) w →
        (w.named ≡ name) × (w.waiting ≡ place) × (name < base)
    go false e k = absurd (contained_none w k)
    go true e k = elim (contained_cases [] (record { named = name; waiting = place }) w k) [
      | inl same ↦ (
        ap (λ (v : Wait). v.named) (sym same),
        ap (λ (v : Wait). v.waiting) (sym same),
        grind (arith, nat_tests, e),
      )
      | inr none ↦ absurd (contained_none w none)
    ]

name_at : (base place name : ℕ) → name < base →
    Contains {X = Wait} (wait_at base place name) (record { named = name; waiting = place })
name_at base place name low =
    let e : nat_lt name base ≡ true = grind (arith, nat_tests, low) in
    subst (λ (b : Bool). Contains {X = Wait} (cond b (record { named = name; waiting = place } ∷ []) [])
    (record { named = name; waiting = place })) (sym e)
    (contained_first [] (record { named = name; waiting = place }))

-- a class names this slot of another one
pub record NamesSlot (classes : List Class) (place slot : ℕ) : Type 0 where
  pub class : Class
  pub at : slice_get classes place ≡ Some class
  pub names : Contains (names_in class.entries) slot
  pub low : slot < own_base (length class.entries)

from_class :
    (cs : List Class) (n : ℕ) (w : Wait) → Contains (waits_from n cs) w → (at : ℕ) × (w.waiting ≡ n + at)
    × NamesSlot cs at w.named
from_class [] n w c = absurd (contained_none w c)
from_class (k ∷ cs) n w c = elim (Contains-append_cases (class_waits n k) (waits_from (suc n) cs) w c) [
  | inl here ↦ (
      let r = in_flat (wait_at (own_base (length k.entries)) n) (names_in k.entries) w here in
      let e = at_name (own_base (length k.entries)) n r.0 w r.2 in
      let low = e.2 in
      let is = e.0 in (
        0,
        omega (arith, e.1),
        record {
          class = k;
          at = refl;
          names = subst (λ (x : ℕ). Contains (names_in k.entries) x) (sym is) r.1;
          low = omega (arith, is, low);
        },
      ))
  | inr there ↦ (
      let r = from_class cs (suc n) w there in
      let s = r.2 in (
        suc r.0,
        omega (arith, r.1),
        record { class = s.class; at = s.at; names = s.names; low = s.low },
      ))
]

to_class :
    (cs : List Class) (n at slot place : ℕ) → place ≡ n + at → NamesSlot cs at slot →
    Contains (waits_from n cs) (record { named = slot; waiting = place })
to_class [] n at slot place e s = let is = s.at in absurd cc
to_class (k ∷ cs) n zero slot place e s =
    let same : k ≡ s.class = same_Some k s.class s.at in
    let here : place ≡ n = omega (arith, e) in
    let low = s.low in
    subst (λ (p : ℕ). Contains (class_waits n k ++ waits_from (suc n) cs)
    (record { named = slot; waiting = p }))
    (sym here)
    (Contains-append_left (class_waits n k) (waits_from (suc n) cs) (record { named = slot; waiting = n })
    (subst (λ (c : Class). Contains (class_waits n c) (record { named = slot; waiting = n })) (sym same)
    (flat_in (wait_at (own_base (length s.class.entries)) n) (names_in s.class.entries) slot
    (record { named = slot; waiting = n }) s.names
    (name_at (own_base (length s.class.entries)) n slot s.low))))
to_class (k ∷ cs) n (suc at) slot place e s =
    Contains-append_right (class_waits n k) (waits_from (suc n) cs)
    (record { named = slot; waiting = place })
    (to_class cs (suc n) at slot place (omega (arith, e))
    (record { class = s.class; at = s.at; names = s.names; low = s.low }))

pub waits_for :
    (classes : List Class) (waits : List Wait) → AreWaits classes waits → (w : Wait) → Contains waits w →
    NamesSlot classes w.waiting w.named
waits_for classes waits a w c =
    let r = from_class classes 0 w
    (Contains-permutation waits (waits_from 0 classes) w (IsPermutation-sym (waits_from 0 classes) waits
    a.all)
    c) in
    let same : r.0 ≡ w.waiting = omega (arith, r.1) in
    subst (λ (p : ℕ). NamesSlot classes p w.named) same r.2

pub wait_there :
    (classes : List Class) (waits : List Wait) → AreWaits classes waits → (place slot : ℕ) →
    NamesSlot classes place slot → Contains waits (record { named = slot; waiting = place })
wait_there classes waits a place slot s =
    Contains-permutation (waits_from 0 classes) waits (record { named = slot; waiting = place }) a.all
    (to_class classes 0 place slot place (omega arith) s)

-- ---- the waits before a slot

pushed_at :
    (ns : List ℕ) (n k m : ℕ) → slice_get (ns ++ n ∷ []) k ≡ Some m →
    (slice_get ns k ≡ Some m) ⊎ ((k ≡ length ns) × (n ≡ m))
pushed_at [] n zero m e = inr (refl, same_Some n m e)
pushed_at [] n (suc k) m e = absurd cc
pushed_at (o ∷ ns) n zero m e = inl e
pushed_at (o ∷ ns) n (suc k) m e = elim (pushed_at ns n k m e) [
  | inl old ↦ inl old
  | inr new ↦ (let at = new.0 in inr (omega (arith, at), new.1))
]

module _ (waits : List Wait) (rising : IsNonDecreasingBy (λ (w : Wait). w.named) waits) (known : ℕ)
    (starts : List ℕ) (are : AreStarts waits known starts) where
  -- the next slot is not past the slot that the next pair names
  pub one_start :
      (wait : Wait) → slice_get waits known ≡ Some wait → length starts ≤ wait.named →
      AreStarts waits known (starts ++ known ∷ [])
  one_start wait there room = record {
    each = λ slot start at w here is. elim (pushed_at starts known slot start here) [
      | inl old ↦ are.each slot start at w old is
      | inr new ↦ (
        λ less. (let s = are.small at w (omega (arith, less, new.1)) is in omega (arith, s, new.0)),
        λ less. elim (cases_lt at known) [
          | inl low ↦ omega (arith, low, new.1)
          | inr over ↦ absurd (omega (arith, new.0, room, less, over_named at w is over))
        ],
      )
    ];
    small = λ at w low is. (
        let s = are.small at w low is in omega (arith, s, length-append starts (known ∷ [])));
  }
    where
      over_named : (at : ℕ) (w : Wait) → slice_get waits at ≡ Some w → known ≤ at → wait.named ≤ w.named
      over_named at w is over =
          let r = rising known at wait over (slice_get_within waits at w is) in
          rw (get_or_from_slice_get waits known wait wait there, get_or_from_slice_get waits at w wait is)
          at r

  pub one_more_known :
      (wait : Wait) → slice_get waits known ≡ Some wait → wait.named < length starts →
      AreStarts waits (known + 1) starts
  one_more_known wait there room = record {
    each = are.each;
    small = λ at w low is. elim (cases_lt at known) [
      | inl less ↦ are.small at w less is
      | inr over ↦ (
          let same : at ≡ known = omega (arith, low, over) in
          let one : w ≡ wait = same_Some w wait (sym is ∙ (ap (slice_get waits) same ∙ there)) in
          rw one room)
    ];
  }
