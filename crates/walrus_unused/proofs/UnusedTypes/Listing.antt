-- The ids of the types without a mark, in order.
use Rattle.std.proofs.Common.{◌≡◌, ℕ, zero, suc, ◌+◌, ◌<◌, ◌≤◌, Bool, true, false, cond, not, List, [], ◌∷◌, length, refl, sym, ap, subst, ◌∙◌, arith, Contains, filter, is_some, nat_eq, ◌⊎◌, Some, inl, inr}
use Rattle.std.specs.List.{range_with_len, IsDistinct, slice_index}
use Rattle.std.specs.List.Sorted.{IsStrictlyIncreasing}
use Rattle.std.proofs.lemmas.List.{length-replicate}
use Rattle.std.proofs.lemmas.Map.Keys.{sorted_from_strictly_increasing, below_from_sorted, IsDistinct-from_apart}
use Rattle.std.proofs.lemmas.Bool.Decides.{nat_tests}
use Rattle.walrus_types.specs.TypesById.{live_type, IsLive}
use Rattle.walrus_types.specs.Table.{Table, IsTable, live_ids}
use Rattle.walrus_types.proofs.Tables.Places.{live_below, range_get}
use Rattle.walrus_unused.specs.NeededTypes.{IsNeeded, AreUnused}
use Rattle.walrus_unused.specs.Steps.Marking.{State, is_marked, MarksNeeded, Covers, no_marks}
use Rattle.walrus_unused.proofs.UnusedTypes.Elements.{contains_none, contains_first, contains_rest, contains_cases, contains_from_get}

-- what a filter keeps

pub filter_keeps :
    (p : ℕ → Bool) (xs : List ℕ) (x : ℕ) → Contains (filter p xs) x → Contains xs x × (p x ≡ true)
filter_keeps p [] x c = absurd (contains_none x c)
filter_keeps p (y ∷ xs) x c = by_test (p y) refl c (filter_keeps p xs x)
  where
    by_test : (b : Bool) → b ≡ p y → Contains (cond b (y ∷ filter p xs) (filter p xs)) x →
        (Contains (filter p xs) x → Contains xs x × (p x ≡ true)) → Contains (y ∷ xs) x × (p x ≡ true)
    by_test true e c rest = elim (contains_cases y (filter p xs) x c) [
      | inl same ↦ (subst (Contains (y ∷ xs)) (sym same) (contains_first y xs), ap p same ∙ sym e)
      | inr k ↦ (let r = rest k in (contains_rest y xs x r.0, r.1))
    ]
    by_test false e c rest = let r = rest c in (contains_rest y xs x r.0, r.1)

pub kept_by_filter :
    (p : ℕ → Bool) (xs : List ℕ) (x : ℕ) → Contains xs x → p x ≡ true → Contains (filter p xs) x
kept_by_filter p [] x c t = absurd (contains_none x c)
kept_by_filter p (y ∷ xs) x c t = by_test (p y) refl (contains_cases y xs x c) (λ k.
    kept_by_filter p xs x k t)
  where
    by_test : (b : Bool) → b ≡ p y → (x ≡ y) ⊎ Contains xs x → (Contains xs x → Contains (filter p xs) x) →
        Contains (cond b (y ∷ filter p xs) (filter p xs)) x
    by_test true e (inl same) rest = subst (Contains (y ∷ filter p xs)) (sym same)
        (contains_first y (filter p xs))
    by_test true e (inr k) rest = contains_rest y (filter p xs) x (rest k)
    by_test false e (inl same) rest = let no : ⊥ = differ (ap p same ∙ sym e) in absurd no
      where
        differ : p x ≡ false → ⊥
        differ f = cc
    by_test false e (inr k) rest = rest k

-- the live ids

pub live_listed : (t : Table) (id : ℕ) → IsLive t.types.slots id → Contains (live_ids t) id
live_listed t id live =
    let below = live_below t.types.slots id live in
    let e : 0 + id ≡ id = omega arith in
    let there = contains_from_get (range_with_len 0 (length t.types.slots)) id id
    (range_get 0 (length t.types.slots) id below ∙ ap (λ (n : ℕ). Some n) e) in
    kept_by_filter (λ id. is_some (live_type t.types.slots id)) (range_with_len 0 (length t.types.slots)) id
    there live

pub listed_live : (t : Table) (id : ℕ) → Contains (live_ids t) id → IsLive t.types.slots id
listed_live t id c = (filter_keeps (λ id. is_some (live_type t.types.slots id))
    (range_with_len 0 (length t.types.slots)) id c).1

-- each is at least b, and greater than those before it
abbrev Rises : ℕ → List ℕ → Type 0
Rises b [] = Unit {0}
Rises b (x ∷ xs) = (b ≤ x) × Rises (suc x) xs

rises_from : (b c : ℕ) (xs : List ℕ) → c ≤ b → Rises b xs → Rises c xs
rises_from b c [] low r = tt
rises_from b c (x ∷ xs) low r = let first = r.0 in (omega arith, r.1)

range_rises : (b n : ℕ) → Rises b (range_with_len b n)
range_rises b zero = tt
range_rises b (suc n) = (
  omega arith,
  rises_from (b + 1) (suc b) (range_with_len (b + 1) n) (omega arith)
      (range_rises (b + 1) n),
)

filter_rises : (p : ℕ → Bool) (b : ℕ) (xs : List ℕ) → Rises b xs → Rises b (filter p xs)
filter_rises p b [] r = tt
filter_rises p b (x ∷ xs) r = by_test (p x) (filter_rises p (suc x) xs r.1)
  where
    by_test : (t : Bool) → Rises (suc x) (filter p xs) → Rises b (cond t (x ∷ filter p xs) (filter p xs))
    by_test true rest = (r.0, rest)
    by_test false rest = let first = r.0 in rises_from (suc x) b (filter p xs) (omega arith) rest

first_less : (x y : ℕ) → suc x ≤ y → x < y
first_less x y h = omega (arith, h)

increasing : (b : ℕ) (xs : List ℕ) → Rises b xs → IsStrictlyIncreasing xs
increasing b [] r k below = absurd (omega (arith, below))
increasing b (x ∷ []) r k below = absurd (omega (arith, below))
increasing b (x ∷ y ∷ xs) r zero below = first_less x y r.1.0
increasing b (x ∷ y ∷ xs) r (suc k) below =
    let e : suc (k + 1) ≡ suc k + 1 = omega arith in
    subst (λ (n : ℕ). slice_index (x ∷ y ∷ xs) (suc k) < slice_index (x ∷ y ∷ xs) n) e
    (increasing (suc x) (y ∷ xs) r.1 k (omega (arith, below)))

pub distinct_from_increasing : (xs : List ℕ) → IsStrictlyIncreasing xs → IsDistinct nat_eq xs
distinct_from_increasing xs up = IsDistinct-from_apart nat_eq xs (λ i j d low below.
    let less = below_from_sorted xs i j d (sorted_from_strictly_increasing xs up) low below in
    grind (arith, nat_tests, less))

marked_not : (b : Bool) → not b ≡ true → b ≡ true → ⊥
marked_not b n h = cc

-- those without a mark
pub unused_from :
    (t : Table) (roots : List ℕ) (s : State) (ids : List ℕ) → MarksNeeded t roots s →
    ids ≡ filter (λ id. not (is_marked s id)) (live_ids t) → AreUnused t roots ids
unused_from t roots s ids marks is = subst (AreUnused t roots) (sym is) (record {
  unused = λ id c. (let k = filter_keeps (λ id. not (is_marked s id)) (live_ids t) id c in
      (listed_live t id k.0, λ n. marked_not (is_marked s id) k.1 ((marks id).1 n)));
  others = λ id live none. by_mark id live none (is_marked s id) refl;
  in_order = increasing 0 (filter (λ id. not (is_marked s id)) (live_ids t))
      (filter_rises (λ id. not (is_marked s id)) 0 (live_ids t)
      (filter_rises (λ id. is_some (live_type t.types.slots id)) 0 (range_with_len 0 (length t.types.slots))
      (range_rises 0 (length t.types.slots))));
})
  where
    by_mark : (id : ℕ) → IsLive t.types.slots id →
        (Contains (filter (λ id. not (is_marked s id)) (live_ids t)) id → ⊥) → (b : Bool) →
        b ≡ is_marked s id → IsNeeded t roots id
    by_mark id live none true e = (marks id).0 (sym e)
    by_mark id live none false e = absurd (none
        (kept_by_filter (λ id. not (is_marked s id)) (live_ids t) id (live_listed t id live)
        (ap not (sym e))))

-- there is a mark for each live id
pub covered_from : (t : Table) (s : State) → IsTable t → s ≡ no_marks (length t.types.slots) → Covers t s
covered_from t s is e = record {
  grouping = is;
  size = λ id live.
      let below = live_below t.types.slots id live in
      let many = ap (λ (s : State). length s.marks) e in
      let long = length-replicate (length t.types.slots) false in
      omega (arith, below, many, long);
}
