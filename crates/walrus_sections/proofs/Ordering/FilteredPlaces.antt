-- Those places of a list that pass a test.
use Rattle.std.proofs.Common.{◌≡◌, ℕ, zero, suc, ◌+◌, ◌<◌, List, [], ◌∷◌, ◌++◌, sym, ap, subst, ◌∙◌, arith, Some, Bool, true, false, cond, get_or, eqb, zero-add}
use Rattle.std.specs.List.{slice_get, filter, range_with_len, IsDistinct, AllPairs, Contains}
use Rattle.std.proofs.lemmas.{List.append-nil, List.Elements.filter-append, List.Elements.All-filter, List.Elements.All-contains_itself, List.Elements.filter_passes, List.Kept.AllPairs-filter, List.FromFn.length-range_with_len, List.FromFn.get_or-range_with_len, Map.Keys.IsDistinct-from_apart, Option.slice_get_within, Option.slice_get-get_or, Option.get_or_from_slice_get, Bool.Decides.nat_tests}
use Rattle.walrus_ty.proofs.Basics.{some_inj, range_push}

pub filter_at :
    (p : ℕ → Bool) (xs : List ℕ) (a x : ℕ) → slice_get (filter p xs) a ≡ Some x →
    (p x ≡ true) × (b : ℕ) × (slice_get xs b ≡ Some x)
filter_at p xs a x h =
    let is = get_or_from_slice_get (filter p xs) a x x h in
    let below = slice_get_within (filter p xs) a x h in
    let c = subst (Contains xs) is (All-filter p (Contains xs) xs (All-contains_itself xs) a x below) in
    (ap p (sym is) ∙ filter_passes p xs a x below, c.0, slice_get-get_or xs c.0 x c.1 ∙ ap (λ y. Some y) c.2)

pub filter_onto :
    (p : ℕ → Bool) (xs : List ℕ) (b x : ℕ) → slice_get xs b ≡ Some x → p x ≡ true →
    (a : ℕ) × (slice_get (filter p xs) a ≡ Some x)
filter_onto p [] b x at h = cc
filter_onto p (y ∷ xs) zero x at h = let f : p y ≡ true = ap p (some_inj at) ∙ h in (0, rw f at)
filter_onto p (y ∷ xs) (suc b) x at h = by (p y) (filter_onto p xs b x at h)
  where
    by : (c : Bool) → ((a : ℕ) × (slice_get (filter p xs) a ≡ Some x)) → (a : ℕ)
        × (slice_get (cond c (y ∷ filter p xs) (filter p xs)) a ≡ Some x)
    by true r = (suc r.0, r.1)
    by false r = r

-- the places are the numbers from 0 on

pub in_range : (n k : ℕ) → k < n → slice_get (range_with_len 0 n) k ≡ Some k
in_range n k below =
    slice_get-get_or (range_with_len 0 n) k 0 (omega (arith, below, length-range_with_len 0 n))
    ∙ ap (λ (m : ℕ). Some m) (get_or-range_with_len 0 n k 0 below ∙ zero-add k)

differ : (x y : ℕ) → x < y → eqb x y ≡ false
differ x y lt = grind (arith, nat_tests, lt)

pub kept_distinct : (p : ℕ → Bool) (n : ℕ) → IsDistinct eqb (filter p (range_with_len 0 n))
kept_distinct p n =
    let range = range_with_len 0 n in
    let rises : AllPairs (λ x y. x < y) range = λ i j d less below.
    (let j_below : j < n = omega (arith, below, length-range_with_len 0 n) in
    let at_j = get_or-range_with_len 0 n j d j_below in
    let at_i = get_or-range_with_len 0 n i d (omega (arith, less, j_below)) in
    omega (arith, less, at_i, at_j)) in
    IsDistinct-from_apart eqb (filter p range) (λ i j d less below. differ (get_or (filter p range) i d)
    (get_or (filter p range) j d) (AllPairs-filter (λ x y. x < y) p range rises i j d less below))

-- the next place is kept, or left out

next : (p : ℕ → Bool) (i : ℕ) (b : Bool) → p i ≡ b → filter p (range_with_len 0 (i + 1)) ≡
    filter p (range_with_len 0 i) ++ cond b (i ∷ []) []
next p i b test = ap (filter p) (sym (range_push 0 i i (sym (zero-add i))))
    ∙ (filter-append p (range_with_len 0 i) (i ∷ [])
    ∙ ap (λ (c : Bool). filter p (range_with_len 0 i) ++ cond c (i ∷ []) []) test)

pub kept_more :
    (p : ℕ → Bool) (i : ℕ) → p i ≡ true →
    filter p (range_with_len 0 (i + 1)) ≡ filter p (range_with_len 0 i) ++ i ∷ []
kept_more p i test = next p i true test

pub left_out :
    (p : ℕ → Bool) (i : ℕ) → p i ≡ false →
    filter p (range_with_len 0 (i + 1)) ≡ filter p (range_with_len 0 i)
left_out p i test = next p i false test ∙ append-nil (filter p (range_with_len 0 i))
