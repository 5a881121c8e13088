-- A queue whose groups are put in order.
use Rattle.std.proofs.Common.{◌≡◌, ℕ, ◌-◌, ◌<◌, Bool, true, false, List, [], ◌∷◌, ◌++◌, length, length-append, map, append-nil, append_assoc, ◌⊎◌, inl, inr, ◌∙◌, refl, sym, ap, subst, Contains, arith, slice_get, option_to_list}
use Rattle.std.specs.Prelude.{◌↔◌, Option, Some, None, IsSome, IfSome, IfNone, nat_eq}
use Rattle.std.specs.declared.cmp.Ordering.{Ordering}
use Rattle.std.specs.declared.cmp.Ordering.TheVariants.{Less, Equal, Greater}
use Rattle.std.specs.BTreeMap.{insert_entry}
use Rattle.std.specs.BTreeMap.Range.{IsLeBy, IsLtBy}
use Rattle.std.specs.Cmp.{IsStrictWeakOrder}
use Rattle.std.specs.List.{All, IsDistinct}
use Rattle.std.specs.List.Sorted.{IsPermutation, IsSortedBy}
use Rattle.std.specs.Map.{keys_of}
use Rattle.std.specs.Ordering.{match_ordering, is_lt, is_gt, ordering_reverse}
use Rattle.std.proofs.Math.Seq.{get_or-append_seam}
use Rattle.std.proofs.lemmas.Cmp.{lists_total, nat_eq_equiv, upto}
use Rattle.std.proofs.lemmas.List.{get_or_append_left, map-append, nil_from_length}
use Rattle.std.proofs.lemmas.List.Elements.{All-contains, All-from_recursion, Contains-append_left, Contains-append_cases}
use Rattle.std.proofs.lemmas.List.Sorted.{Contains-permutation, IsPermutation-refl, IsPermutation-sym, IsPermutation-trans, IsPermutation-cons, IsPermutation-middle, IsPermutation-map, IsPermutation-to_front, IsPermutation-append_left, IsPermutation-append_right, IsPermutation-append_comm, IsStrictWeakOrder-flip, length_permutation, ranks_by, sorted_far}
use Rattle.std.proofs.lemmas.Option.{same_Some, slice_get_read}
use Rattle.std.proofs.lemmas.Map.Keys.{IsDistinct-head, IsDistinct-IsPermutation, IsDistinct-from_apart, apart_from_distinct}
use Rattle.walrus_ty.specs.Definition.{Definition}
use Rattle.walrus_ty.proofs.Names.Definitions.{definitions_total}
use Rattle.walrus_canonical.specs.Steps.Queues.{AreApart, HasEachOnce, IsFalling, IsLeast, TakesLeast}
use Rattle.walrus_canonical.specs.Steps.Shown.{definitions_cmp}
use Rattle.walrus_canonical.proofs.Reading.Containing.{contained_first, contained_later, contained_cases, contained_none}
use Rattle.walrus_canonical.proofs.Forms.Indices.{contained-map}
use Rattle.walrus_canonical.proofs.Forms.Orders.{definitions_exact}

abbrev Entry : Type 0
Entry = List Definition × ℕ

abbrev inserted : List Entry → List Definition → ℕ → List Entry
inserted es k v = insert_entry definitions_cmp es k v

abbrev pub places : List Entry → List ℕ
places es = map (λ (e : Entry). e.1) es

-- ---- classes and groups that come once

pub no_other :
    (e : Entry) (es : List Entry) → HasEachOnce (e ∷ es) → (f : Entry) → Contains es f → ¬ (e.1 ≡ f.1)
no_other e es once f m is =
    let all = All-from_recursion (λ (n : ℕ). nat_eq e.1 n ≡ false) (places es)
    (IsDistinct-head nat_eq e.1 (places es) once) in
    let apart : nat_eq e.1 f.1 ≡ false =
    All-contains (λ (n : ℕ). nat_eq e.1 n ≡ false) (places es) f.1 all
    (contained-map (λ (q : Entry). q.1) es f m) in
    let z : true ≡ false = sym (nat_eq_equiv.refl e.1) ∙ (ap (nat_eq e.1) is ∙ apart) in
    absurd cc

first_apart :
    (e : Entry) (es : List Entry) → AreApart (e ∷ es) → (f : Entry) → Contains es f →
    ¬ (definitions_cmp e.0 f.0 ≡ Equal)
first_apart e es apart f m h =
    let is : e.0 ≡ f.0 = definitions_exact e.0 f.0 h in
    no_other e es apart.0 f m (apart.1 e.0 e.1 f.1 (contained_first es e)
    (subst (λ (ds : List Definition). Contains (e ∷ es) (ds, f.1)) (sym is) (contained_later es e f m)))

pub once_too : (es fs : List Entry) → IsPermutation es fs → HasEachOnce es → HasEachOnce fs
once_too es fs p once =
    IsDistinct-IsPermutation nat_eq nat_eq_equiv.symm (places es) (places fs)
    (IsPermutation-map (λ (q : Entry). q.1) es fs p) once

apart_too : (es fs : List Entry) → IsPermutation es fs → AreApart es → AreApart fs
apart_too es fs p apart = (
  once_too es fs p apart.0,
  λ ds c d m n. apart.1 ds c d (back (ds, c) m) (back (ds, d) n),
)
  where
    back : (x : Entry) → Contains fs x → Contains es x
    back x m = Contains-permutation fs es x (IsPermutation-sym es fs p) m

apart_left : (es fs : List Entry) → AreApart (es ++ fs) → AreApart es
apart_left es fs apart = (
  IsDistinct-from_apart nat_eq (places es) (λ i j d less below.
      rw (
        ← get_or_append_left (places es) (places fs) d i (omega (arith, less, below)),
        ← get_or_append_left (places es) (places fs) d j below,
      )
      (apart_from_distinct nat_eq (places es ++ places fs) i j d
      (subst (λ (ns : List ℕ). IsDistinct nat_eq ns) (map-append (λ (q : Entry). q.1) es fs) apart.0) less
      (omega (arith, below, length-append (places es) (places fs))))),
  λ ds c d m n. apart.1 ds c d (Contains-append_left es fs (ds, c) m)
      (Contains-append_left es fs (ds, d) n),
)

-- ---- one group is put in its place

choose :
    (o : Ordering) (a b c : List Entry) (P : List Entry → Type 0) → (o ≡ Less → P a) → (o ≡ Equal → P b) →
    (o ≡ Greater → P c) → P (match_ordering o a b c)
choose Less a b c P x y z = x refl
choose Equal a b c P x y z = y refl
choose Greater a b c P x y z = z refl

inserted_moves :
    (es : List Entry) (k : List Definition) (v : ℕ) →
    ((e : Entry) → Contains es e → ¬ (definitions_cmp k e.0 ≡ Equal)) →
    IsPermutation ((k, v) ∷ es) (inserted es k v)
inserted_moves [] k v apart = IsPermutation-refl ((k, v) ∷ [])
inserted_moves (e ∷ es) k v apart =
    choose (definitions_cmp k e.0) ((k, v) ∷ e ∷ es) ((e.0, v) ∷ es) (e ∷ inserted es k v)
    (λ (xs : List Entry). IsPermutation ((k, v) ∷ e ∷ es) xs) (λ h. IsPermutation-refl ((k, v) ∷ e ∷ es))
    (λ h. absurd (apart e (contained_first es e) h))
    (λ h. IsPermutation-trans ((k, v) ∷ e ∷ es) (e ∷ (k, v) ∷ es) (e ∷ inserted es k v)
    (IsPermutation-middle ((k, v) ∷ []) e es)
    (IsPermutation-cons e ((k, v) ∷ es) (inserted es k v)
    (inserted_moves es k v (λ f m. apart f (contained_later es e f m)))))

one_inserted :
    (es rest : List Entry) (k : List Definition) (v : ℕ) → AreApart (es ++ (k, v) ∷ rest) →
    IsPermutation (es ++ (k, v) ∷ rest) (inserted es k v ++ rest)
one_inserted es rest k v apart =
    let front = IsPermutation-middle es (k, v) rest in
    let now = apart_too (es ++ (k, v) ∷ rest) ((k, v) ∷ (es ++ rest)) front apart in
    IsPermutation-trans (es ++ (k, v) ∷ rest) ((k, v) ∷ (es ++ rest)) (inserted es k v ++ rest) front
    (IsPermutation-append_left rest ((k, v) ∷ es) (inserted es k v) (inserted_moves es k v (λ e m.
    first_apart (k, v) (es ++ rest) now e (Contains-append_left es rest e m))))

-- the next of the groups is put in
pub more_inserted :
    (start es left rest : List Entry) (k : List Definition) (v : ℕ) (es' : List Entry) →
    left ≡ (k, v) ∷ rest → es' ≡ inserted es k v → AreApart start → IsPermutation start (es ++ left) →
    IsPermutation start (es' ++ rest)
more_inserted start es left rest k v es' is put apart same =
    let now : IsPermutation start (es ++ (k, v) ∷ rest) = rw is at same in
    rw put (IsPermutation-trans start (es ++ (k, v) ∷ rest) (inserted es k v ++ rest) now
    (one_inserted es rest k v (apart_too start (es ++ (k, v) ∷ rest) now apart)))

pub all_inserted :
    (start es left : List Entry) → left ≡ [] → IsPermutation start (es ++ left) → IsPermutation start es
all_inserted start es left none same = rw (none, append-nil es) at same

-- ---- groups are put into the batch, or into the map

pub put_in_batch :
    (kept batch groups sorted : List Entry) → batch ≡ [] → IsPermutation groups sorted →
    IsPermutation ((kept ++ batch) ++ groups) (kept ++ sorted)
put_in_batch kept batch groups sorted none p =
    rw (none, append-nil kept) (IsPermutation-append_right kept groups sorted p)

pub put_in_map :
    (kept batch groups sorted now : List Entry) → IsPermutation groups sorted →
    (AreApart (kept ++ sorted) → IsPermutation (kept ++ sorted) now) → AreApart ((kept ++ batch) ++ groups) →
    IsPermutation ((kept ++ batch) ++ groups) (now ++ batch)
put_in_map kept batch groups sorted now p put apart =
    let old = (kept ++ batch) ++ groups in
    let mid = (kept ++ sorted) ++ batch in
    let moved = IsPermutation-trans (batch ++ groups) (groups ++ batch) (sorted ++ batch)
    (IsPermutation-append_comm batch groups) (IsPermutation-append_left batch groups sorted p) in
    let there : IsPermutation old mid =
    rw (append_assoc kept batch groups, append_assoc kept sorted batch)
    (IsPermutation-append_right kept (batch ++ groups) (sorted ++ batch) moved) in
    IsPermutation-trans old mid (now ++ batch) there (IsPermutation-append_left batch (kept ++ sorted) now
    (put (apart_left (kept ++ sorted) batch (apart_too old mid there apart))))

-- ---- the batch

abbrev pub falls : Entry → Entry → Bool
falls e f = is_lt (definitions_cmp f.0 e.0)

pub falls_order : IsStrictWeakOrder falls
falls_order = IsStrictWeakOrder-flip _ (ranks_by (lists_total definitions_total) (λ (e : Entry). e.0))

not_above : (o p : Ordering) → p ≡ ordering_reverse o → is_lt o ≡ false → is_gt p ≡ false
not_above Less p e h = cc
not_above Equal p e h = ap is_gt e
not_above Greater p e h = ap is_gt e

pub falling_from_sort : (es : List Entry) → IsSortedBy falls es → IsFalling es
falling_from_sort es up before after ds c is fs d m =
    let all = before ++ (ds, c) ∷ after in
    let k = m.0 in
    let far = sorted_far falls falls_order all (subst (λ (xs : List Entry). IsSortedBy falls xs) is up) k
    (length before) (fs, d) (omega (arith, m.1))
    (omega (arith, length-append before ((ds, c) ∷ after))) in
    let less : falls (ds, c) (fs, d) ≡ false =
    rw (
      get_or-append_seam before (ds, c) after (fs, d),
      get_or_append_left before ((ds, c) ∷ after) (fs, d) k m.1,
      m.2,
    ) at far in
    not_above (definitions_cmp fs ds) (definitions_cmp ds fs)
    ((lists_total definitions_total).antisymm ds fs) less

pub falling_first : (es fs : List Entry) → IsFalling (es ++ fs) → IsFalling es
falling_first es fs falling before after ds c is =
    falling before (after ++ fs) ds c (ap (λ (xs : List Entry). xs ++ fs) is
    ∙ append_assoc before ((ds, c) ∷ after) fs)

last_of : (es : List Entry) → (es ≡ []) ⊎ ((before : List Entry) × (e : Entry) × (es ≡ before ++ e ∷ []))
last_of [] = inl refl
last_of (e ∷ es) = elim (last_of es) [
  | inl none ↦ inr ([], e, ap (λ (xs : List Entry). e ∷ xs) none)
  | inr r ↦ inr (e ∷ r.0, r.1, ap (λ (xs : List Entry). e ∷ xs) r.2)
]

-- what is not above the last of a batch is not above any of it
below_batch :
    (es : List Entry) (ds : List Definition) → IsFalling es →
    ((before : List Entry) (fs : List Definition) (d : ℕ) → es ≡ before ++ (fs, d) ∷ [] →
    IsLeBy definitions_cmp ds fs) → IsLeast ds es
below_batch es ds falling last = elim (last_of es) [
  | inl none ↦ (λ fs d m. absurd (contained_none (fs, d)
      (subst (λ (xs : List Entry). Contains xs (fs, d)) none m)))
  | inr r ↦ (λ fs d m. (
      let e = r.1 in
      let low : is_gt (definitions_cmp ds e.0) ≡ false = last r.0 e.0 e.1 r.2 in
      elim (Contains-append_cases r.0 (e ∷ []) (fs, d)
      (subst (λ (xs : List Entry). Contains xs (fs, d)) r.2 m)) [
        | inl before ↦ upto (lists_total definitions_total) ds e.0 fs low
            (falling r.0 [] e.0 e.1 r.2 fs d before)
        | inr is ↦ elim (contained_cases [] e (fs, d) is) [
          | inl same ↦ ap (λ (q : Entry). is_gt (definitions_cmp ds q.0)) (sym same) ∙ low
          | inr none ↦ absurd (contained_none (fs, d) none)
        ]
      ]))
]

last_is :
    (es before : List Entry) (e f : Entry) → es ≡ before ++ f ∷ [] →
    Some e ≡ slice_get es (length es - 1) → e ≡ f
last_is es before e f is last =
    let n : length es - 1 ≡ length before =
    omega (arith, ap (λ (xs : List Entry). length xs) is, length-append before (f ∷ [])) in
    same_Some e f (last ∙ (ap (slice_get es) n ∙ (ap (λ (xs : List Entry). slice_get xs (length before)) is
    ∙ slice_get_read (before ++ f ∷ []) (length (before ++ f ∷ [])) (length before) f refl
    (omega (arith, length-append before (f ∷ []))) (sym (get_or-append_seam before f [] f)))))

-- the last of the batch is compared with the first of the map
module _ (kept batch before : List Entry) (e : Entry) (first : List Definition)
    (last : Some e ≡ slice_get batch (length batch - 1)) (ds : List Definition) (c : ℕ)
    (is : batch ≡ before ++ (ds, c) ∷ []) where
  same : e.0 ≡ ds
  same = ap (λ (q : Entry). q.0) (last_is batch before e (ds, c) is last)

  pub below_map :
      All (IsLeBy definitions_cmp first) (keys_of kept) → is_lt (definitions_cmp e.0 first) ≡ true →
      IsLeast ds kept
  below_map all less fs d m =
      upto (lists_total definitions_total) ds first fs (below (definitions_cmp ds first)
      (ap (λ (x : List Definition). is_lt (definitions_cmp x first)) (sym same) ∙ less))
      (All-contains (IsLeBy definitions_cmp first) (keys_of kept) fs all
      (contained-map (λ (q : Entry). q.0) kept (fs, d) m))
    where
      below : (o : Ordering) → is_lt o ≡ true → is_gt o ≡ false
      below Less h = refl
      below Equal h = cc
      below Greater h = cc

  pub above_map :
      (rest : List Entry) (n : ℕ) → slice_get kept 0 ≡ Some (first, n) →
      is_lt (definitions_cmp e.0 first) ≡ false → (fs : List Definition) (d : ℕ) → kept ≡ (fs, d) ∷ rest →
      IsLeBy definitions_cmp fs ds
  above_map rest n at over fs d front =
      let one : ◌≡◌ {A = Entry} (fs, d) (first, n) =
      same_Some (fs, d) (first, n) (sym (ap (λ (xs : List Entry). slice_get xs 0) front) ∙ at) in
      not_above (definitions_cmp ds fs) (definitions_cmp fs ds)
      ((lists_total definitions_total).antisymm fs ds)
      (rw (sym same, ap (λ (q : Entry). q.0) one) over)

-- ---- the least is taken

least_of_both :
    (ds : List Definition) (es fs : List Entry) → IsLeast ds es → IsLeast ds fs → IsLeast ds (es ++ fs)
least_of_both ds es fs one other gs d m = elim (Contains-append_cases es fs (gs, d) m) [
  | inl left ↦ one gs d left
  | inr right ↦ other gs d right
]

taken :
    (old new : List Entry) (e : Entry) → IsPermutation old (e ∷ new) → IsLeast e.0 new →
    TakesLeast old new (Some e)
taken old new e p least = λ apart. (
  p,
  λ fs d m. go fs d m (definitions_cmp e.0 fs) refl (apart_too old (e ∷ new) p apart),
)
  where
    go :
        (fs : List Definition) (d : ℕ) → Contains new (fs, d) → (o : Ordering) → definitions_cmp e.0 fs ≡ o →
        AreApart (e ∷ new) → definitions_cmp e.0 fs ≡ Less
    go fs d m Less is apart = is
    go fs d m Equal is apart = absurd (first_apart e new apart (fs, d) m is)
    go fs d m Greater is apart = absurd (let z : true ≡ false = sym (ap is_gt is) ∙ least fs d m in cc)

pub last_taken :
    (kept before batch : List Entry) (o : Option Entry) → IsFalling batch →
    batch ≡ before ++ option_to_list o → (IsSome o ↔ (0 < length batch)) → 0 < length batch →
    ((xs : List Entry) (ds : List Definition) (c : ℕ) → batch ≡ xs ++ (ds, c) ∷ [] → IsLeast ds kept) →
    TakesLeast (kept ++ batch) (kept ++ before) o
last_taken kept before batch None falling is variant some least =
    absurd (let z : false ≡ true = variant.1 some in cc)
last_taken kept before batch (Some e) falling is variant some least =
    taken (kept ++ batch) (kept ++ before) e (rw (is, ← append_assoc kept before (e ∷ []))
    (IsPermutation-to_front (kept ++ before) e)) (least_of_both e.0 kept before
    (least before e.0 e.1 is) (falling before [] e.0 e.1 is))

pub first_taken :
    (kept rest batch : List Entry) (o : Option Entry) → IsFalling batch → (IsSome o ↔ (0 < length kept)) →
    IfSome o (λ p. kept ≡ p ∷ rest) → IfNone o (rest ≡ kept) →
    IfSome o (λ p. All (IsLtBy definitions_cmp p.0) (keys_of rest)) → (kept ≡ [] → batch ≡ []) →
    ((more before : List Entry) (ds es : List Definition) (c d : ℕ) → kept ≡ (ds, c) ∷ more →
    batch ≡ before ++ (es, d) ∷ [] → IsLeBy definitions_cmp ds es) →
    TakesLeast (kept ++ batch) (rest ++ batch) o
first_taken kept rest batch None falling variant removal unchanged above none other = λ apart. (
    let empty : kept ≡ [] = nothing kept variant.1 in
    let both : kept ++ batch ≡ [] = rw (empty, none empty) refl in
    (both, ap (λ (xs : List Entry). xs ++ batch) unchanged ∙ both))
  where
    nothing : (xs : List Entry) → (0 < length xs → false ≡ true) → xs ≡ []
    nothing [] h = refl
    nothing (x ∷ xs) h = absurd (let e : false ≡ true = h (omega arith) in cc)
first_taken kept rest batch (Some e) falling variant removal unchanged above none other =
    taken (kept ++ batch) (rest ++ batch) e (rw removal (IsPermutation-refl (e ∷ (rest ++ batch))))
    (least_of_both e.0 rest batch (λ fs d m. ap is_gt (All-contains (IsLtBy definitions_cmp e.0) (keys_of rest)
    fs above (contained-map (λ (q : Entry). q.0) rest (fs, d) m)))
    (below_batch batch e.0 falling (λ before fs d is. other rest before e.0 fs e.1 d removal is)))

-- from a queue that has the same
pub taken_after :
    (old mid new : List Entry) (o : Option Entry) → (AreApart old → IsPermutation old mid) →
    TakesLeast mid new o → TakesLeast old new o
taken_after old mid new None put takes = λ apart. (
    let z = takes (apart_too old mid (put apart) apart) in (
      nil_from_length old (sym (length_permutation old mid (put apart))
          ∙ ap (λ (xs : List Entry). length xs) z.0),
      z.1,
    ))
taken_after old mid new (Some e) put takes = λ apart. (
    let z = takes (apart_too old mid (put apart) apart) in
    (IsPermutation-trans old mid (e ∷ new) (put apart) z.0, z.1))

pub not_none : (es : List Entry) (e : Entry) (fs : List Entry) → IsPermutation es (e ∷ fs) → ¬ (es ≡ [])
not_none es e fs p none = absurd (
    omega (arith, length_permutation es (e ∷ fs) p, ap (λ (xs : List Entry). length xs) none))

pub popped :
    (old ordered fresh groups mid new none : List Entry) (o : Option Entry) → old ≡ ordered ++ fresh →
    groups ≡ fresh → none ≡ [] → (AreApart (ordered ++ groups) → IsPermutation (ordered ++ groups) mid) →
    TakesLeast mid new o → TakesLeast old (new ++ none) o
popped old ordered fresh groups mid new none o came same gone put takes =
    rw (gone, append-nil new) (taken_after old mid new o (rw (came, ← same) put) takes)
