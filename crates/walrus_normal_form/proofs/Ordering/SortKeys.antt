-- Of two definitions the one with the lesser sort key is less.
use Rattle.std.proofs.Common.{◌≡◌, ℕ, ◌+◌, ◌*◌, ◌<◌, ◌≤◌, inl, inr, ◌⊎◌, Bool, true, false, ◌==◌, cond, List, [], ◌∷◌, map, Option, Some, None, refl, ap, sym, ◌∙◌, arith}
use Rattle.std.specs.declared.cmp.Ordering.{Ordering}
use Rattle.std.specs.declared.cmp.Ordering.TheVariants.{Less, Equal, Greater}
use Rattle.std.specs.Ordering.{nat_cmp, ordering_then, ordering_reverse}
use Rattle.std.specs.Cmp.{IsTotalOrder}
use Rattle.std.specs.Cmp.Lexicographic.{slice_cmp}
use Rattle.std.proofs.lemmas.Bool.{cases_lt}
use Rattle.std.proofs.lemmas.Bool.Decides.{nat_tests}
use Rattle.std.proofs.lemmas.Cmp.{nat_cmp_total, on_total, then_total}
use Rattle.walrus_ty.specs.declared.ty.value.AbstractHeapType.{AbstractHeapType}
use Rattle.walrus_ty.specs.declared.ty.value.AbstractHeapType.TheVariants as abstract
use Rattle.walrus_ty.specs.declared.ty.value.Heap.{Heap}
use Rattle.walrus_ty.specs.declared.ty.value.Heap.TheVariants as heap
use Rattle.walrus_ty.specs.declared.ty.value.Val.{Val}
use Rattle.walrus_ty.specs.declared.ty.value.Val.TheVariants as val
use Rattle.walrus_ty.specs.declared.ty.value.Storage.{Storage}
use Rattle.walrus_ty.specs.declared.ty.value.Storage.TheVariants as storage
use Rattle.walrus_ty.specs.declared.ty.value.Field.{Field}
use Rattle.walrus_ty.specs.Definition.{Composite, Function, Struct, Array, Definition, composite_cmp, definition_cmp}
use Rattle.walrus_normal_form.specs.SortKeys.{SortKey, sort_key_cmp, heap_place, val_place, storage_place, is_named, rank, is_open, val_rank, field_rank, marked_items, item_rank, first_rank, after_first, ranks, composite_sort_key}
use Rattle.walrus_ty.specs.Value.{abstract_index, val_index, heap_cmp, val_cmp, storage_cmp, field_cmp, bool_index, bool_cmp}
use Rattle.walrus_ty.proofs.Names.Definitions.{definitions_total}
use Rattle.walrus_ty.proofs.Basics.{nat_same, then_less}
use Rattle.walrus_ty.proofs.Spelling.Tokens.{nat_less, nat_exact}

abstract_small : (a : AbstractHeapType) → abstract_index a ≤ 11
abstract_small abstract.Func = omega arith
abstract_small v = omega arith

heap_small : (h : Heap ℕ) → heap_place h ≤ 12
heap_small (heap.Abstract a) = omega (arith, abstract_small a)
heap_small (heap.Concrete k) = omega arith
heap_small (heap.Exact k) = omega arith

below : (a b : ℕ) → nat_cmp a b ≡ Less → a < b
below a b h = grind (arith, nat_tests, h)

alike : (a b : ℕ) → a ≡ b → nat_cmp a b ≡ Equal
alike a b h = ap (nat_cmp a) (sym h) ∙ nat_same a

-- what the place of a heap type says

heap_less : (h g : Heap ℕ) → heap_place h < heap_place g → heap_cmp h g ≡ Less
heap_less (heap.Abstract a) (heap.Abstract b) w = nat_less (abstract_index a) (abstract_index b) w
heap_less (heap.Abstract a) g w = refl
heap_less h (heap.Abstract b) w = absurd (omega (arith, abstract_small b, w))
heap_less h g w = absurd (omega (arith, w))

heap_tied : (h g : Heap ℕ) → heap_place h ≡ heap_place g → heap_place h < 12 → heap_cmp h g ≡ Equal
heap_tied (heap.Abstract a) (heap.Abstract b) e w = alike (abstract_index a) (abstract_index b) e
heap_tied h g e w = absurd (omega (arith, e, w))

-- what the place of a reference says

nullable_less :
    (m n : Bool) (h g : Heap ℕ) →
    13 * bool_index m + heap_place h < 13 * bool_index n + heap_place g →
    ordering_then (bool_cmp m n) (heap_cmp h g) ≡ Less
nullable_less false false h g w = heap_less h g (omega (arith, w))
nullable_less false true h g w = refl
nullable_less true false h g w = absurd (omega (arith, heap_small g, w))
nullable_less true true h g w = heap_less h g (omega (arith, w))

nullable_tied :
    (m n : Bool) (h g : Heap ℕ) →
    13 * bool_index m + heap_place h ≡ 13 * bool_index n + heap_place g →
    ¬ (13 * bool_index m + heap_place h ≡ 12) → ¬ (13 * bool_index m + heap_place h ≡ 25) →
    ordering_then (bool_cmp m n) (heap_cmp h g) ≡ Equal
nullable_tied false false h g e f w = heap_tied h g (omega (arith, e)) (omega (arith, heap_small h, f))
nullable_tied true true h g e f w = heap_tied h g (omega (arith, e)) (omega (arith, heap_small h, w))
nullable_tied m n h g e f w = absurd (omega (arith, heap_small h, heap_small g, e, f))

-- what the place of a value type says

nullable_small : (m : Bool) (h : Heap ℕ) → 13 * bool_index m + heap_place h ≤ 25
nullable_small false h = omega (arith, heap_small h)
nullable_small true h = omega (arith, heap_small h)

val_small : (v : Val ℕ) → val_place v ≤ 30
val_small (val.Ref r) = omega (arith, nullable_small r.nullable r.heap_type)
val_small v = omega arith

val_less : (v w : Val ℕ) → val_place v < val_place w → val_cmp v w ≡ Less
val_less (val.Ref r) (val.Ref q) h = nullable_less r.nullable q.nullable r.heap_type q.heap_type
    (omega (arith, h))
val_less v (val.Ref q) h = refl
val_less v w h = nat_less (val_index v) (val_index w) (omega (arith, h))

-- a place that is not that of a reference to a type
unnamed : (i : ℕ) → is_named i ≡ false → (¬ (i ≡ 17)) × (¬ (i ≡ 30))
unnamed i h = (
  λ e. (let k : true ≡ false = sym (ap is_named e) ∙ h in cc),
  λ e.
      (let k : true ≡ false = sym (ap is_named e) ∙ h in cc),
)

-- the place of a reference to a type
named : (b c : Bool) (i : ℕ) → (i == 17) ≡ b → (i == 30) ≡ c → cond b true c ≡ true →
    (i ≡ 17) ⊎ (i ≡ 30)
named true c i e f h = inl (grind (arith, nat_tests, e))
named false true i e f h = inr (grind (arith, nat_tests, f))
named false false i e f h = cc

val_tied :
    (v w : Val ℕ) → val_place v ≡ val_place w → is_named (val_place v) ≡ false → val_cmp v w ≡ Equal
val_tied val.I32 val.I32 e h = refl
val_tied val.I64 val.I64 e h = refl
val_tied val.F32 val.F32 e h = refl
val_tied val.F64 val.F64 e h = refl
val_tied val.V128 val.V128 e h = refl
val_tied (val.Ref r) (val.Ref q) e h =
    let apart = unnamed (val_place (val.Ref r)) h in
    nullable_tied r.nullable q.nullable r.heap_type q.heap_type (omega (arith, e)) (λ k.
    apart.0 (omega (arith, k))) (λ k. apart.1 (omega (arith, k)))
val_tied v w e h = absurd (omega (arith, e))

storage_less : (s t : Storage ℕ) → storage_place s < storage_place t → storage_cmp s t ≡ Less
storage_less (storage.Val v) (storage.Val w) h = val_less v w h
storage_less (storage.Val v) t h = refl
storage_less s (storage.Val w) h = absurd (omega (arith, val_small w, h))
storage_less storage.I8 storage.I16 h = refl
storage_less s t h = absurd (omega (arith, h))

storage_tied :
    (s t : Storage ℕ) → storage_place s ≡ storage_place t → is_named (storage_place s) ≡ false →
    storage_cmp s t ≡ Equal
storage_tied (storage.Val v) (storage.Val w) e h = val_tied v w e h
storage_tied (storage.Val v) t e h = absurd (omega (arith, val_small v, e))
storage_tied s (storage.Val w) e h = absurd (omega (arith, val_small w, e))
storage_tied storage.I8 storage.I8 e h = refl
storage_tied storage.I16 storage.I16 e h = refl
storage_tied s t e h = absurd (omega (arith, e))

-- ranks differ by the place, and then by mutability
data RankedBy (i j : ℕ) (m n : Bool) : Type 0 where
  by_place : i < j → RankedBy i j m n
  by_mutability : i ≡ j → is_named i ≡ false → nat_cmp (bool_index m) (bool_index n) ≡ Less → RankedBy i j m n

same_place :
    (i j : ℕ) (b c m n : Bool) → is_named i ≡ b → is_named j ≡ c → j ≤ i →
    2 * (i + 1) + cond b 0 (bool_index m) < 2 * (j + 1) + cond c 0 (bool_index n) → RankedBy i j m n
same_place i j true false m true e f w h = let s : i ≡ j = omega (arith, w, h) in let k : true ≡ false = sym e
    ∙ (ap is_named s ∙ f) in cc
same_place i j false false false true e f w h = by_mutability (omega (arith, w, h)) e refl
same_place i j false false true true e f w h = absurd (omega (arith, w, h))
same_place i j b c m n e f w h = absurd (omega (arith, w, h))

rank_less : (i j : ℕ) (m n : Bool) → nat_cmp (rank i m) (rank j n) ≡ Less → RankedBy i j m n
rank_less i j m n h = elim (cases_lt i j) [
  | inl w ↦ by_place w
  | inr w ↦ same_place i j (is_named i) (is_named j) m n refl refl (omega (arith, w))
      (below (rank i m) (rank j n) h)
]

-- the rank of what names a type is known by itself
named_is_open : (i : ℕ) → is_named i ≡ true → is_open (2 * (i + 1) + 0) ≡ true
named_is_open i h = elim (named (i == 17) (i == 30) i refl refl h) [
  | inl e ↦ ap (λ (x : ℕ). is_open (2 * (x + 1) + 0)) e
  | inr e ↦ ap (λ (x : ℕ). is_open (2 * (x + 1) + 0)) e
]

-- equal ranks of what names no type are of one place and one mutability
rank_same_at :
    (i j : ℕ) (b c m n : Bool) → is_named i ≡ b → is_named j ≡ c →
    2 * (i + 1) + cond b 0 (bool_index m) ≡ 2 * (j + 1) + cond c 0 (bool_index n) →
    is_open (2 * (i + 1) + cond b 0 (bool_index m)) ≡ false →
    (i ≡ j) × (is_named i ≡ false) × (bool_cmp m n ≡ Equal)
rank_same_at i j true c m n e f s h = let k : true ≡ false = sym (named_is_open i e) ∙ h in cc
rank_same_at i j false true false n e f s h = let same : i ≡ j = omega (arith, s) in let k : true ≡ false =
    sym f ∙ (ap is_named (sym same) ∙ e) in cc
rank_same_at i j false false true true e f s h = (omega (arith, s), e, refl)
rank_same_at i j false false false false e f s h = (omega (arith, s), e, refl)
rank_same_at i j b c m n e f s h = absurd (omega (arith, s))

rank_same :
    (i j : ℕ) (m n : Bool) → rank i m ≡ rank j n → is_open (rank i m) ≡ false →
    (i ≡ j) × (is_named i ≡ false) × (bool_cmp m n ≡ Equal)
rank_same i j m n s h = rank_same_at i j (is_named i) (is_named j) m n refl refl s h

rank_some : (i : ℕ) (m : Bool) → nat_cmp (rank i m) 0 ≡ Greater
rank_some i m = let some : 0 < rank i m = omega arith in grind (arith, nat_tests, some)

-- what is asked of a rank, so that lists can be compared by the ranks of their first items
record IsRanking {A : Type 0} (r : A → ℕ) (cmp : A → A → Ordering) : Type 0 where
  pub some : (x : A) → nat_cmp (r x) 0 ≡ Greater
  pub less : (x y : A) → nat_cmp (r x) (r y) ≡ Less → cmp x y ≡ Less
  pub same : (x y : A) → r x ≡ r y → is_open (r x) ≡ false → cmp x y ≡ Equal

module _ {A : Type 0} (r : A → ℕ) (cmp : A → A → Ordering) (ranking : IsRanking r cmp) where
  first_less : (xs ys : List A) → nat_cmp (first_rank r xs) (first_rank r ys) ≡ Less →
      slice_cmp cmp xs ys ≡ Less
  first_less [] [] h = cc
  first_less [] (y ∷ ys) h = refl
  first_less (x ∷ xs) [] h = let k : Greater ≡ Less = sym (ranking.some x) ∙ h in cc
  first_less (x ∷ xs) (y ∷ ys) h = ap (λ o. ordering_then o (slice_cmp cmp xs ys)) (ranking.less x y h)

  rest_by_rank : (b c : Bool) (x y : A) (xs ys : List A) → r x ≡ r y → is_open (r x) ≡ b → is_open (r y) ≡ c →
      slice_cmp cmp (cond b [] xs) (cond c [] ys) ≡ Less → slice_cmp cmp (x ∷ xs) (y ∷ ys) ≡ Less
  rest_by_rank true true x y xs ys e f g h = cc
  rest_by_rank false false x y xs ys e f g h =
      ap (λ o. ordering_then o (slice_cmp cmp xs ys)) (ranking.same x y e f) ∙ h
  rest_by_rank true false x y xs ys e f g h = let k : true ≡ false = sym f ∙ (ap is_open e ∙ g) in cc
  rest_by_rank false true x y xs ys e f g h = let k : false ≡ true = sym f ∙ (ap is_open e ∙ g) in cc

  rest_less : (xs ys : List A) → first_rank r xs ≡ first_rank r ys →
      slice_cmp cmp (after_first r xs) (after_first r ys) ≡ Less → slice_cmp cmp xs ys ≡ Less
  rest_less [] [] e h = cc
  rest_less [] (y ∷ ys) e h = refl
  rest_less (x ∷ xs) [] e h = let k : Greater ≡ Equal = sym (ranking.some x)
      ∙ ap (λ (n : ℕ). nat_cmp n 0) e in cc
  rest_less (x ∷ xs) (y ∷ ys) e h = rest_by_rank (is_open (r x)) (is_open (r y)) x y xs ys e refl refl h

  step : (o more : Ordering) (xs ys : List A) → nat_cmp (first_rank r xs) (first_rank r ys) ≡ o →
      (more ≡ Less → slice_cmp cmp (after_first r xs) (after_first r ys) ≡ Less) → ordering_then
      o more ≡ Less → slice_cmp cmp xs ys ≡ Less
  step Less more xs ys e f h = first_less xs ys e
  step Equal more xs ys e f h = rest_less xs ys (nat_exact (first_rank r xs) (first_rank r ys) e) (f h)
  step Greater more xs ys e f h = cc

  ranks_less : (k : ℕ) (xs ys : List A) → sort_key_cmp (ranks k r xs) (ranks k r ys) ≡ Less →
      slice_cmp cmp xs ys ≡ Less
  ranks_less k xs ys h =
      let xs1 = after_first r xs in
      let ys1 = after_first r ys in
      let xs2 = after_first r xs1 in
      let ys2 = after_first r ys1 in
      let xs3 = after_first r xs2 in
      let ys3 = after_first r ys2 in
      let xs4 = after_first r xs3 in
      let ys4 = after_first r ys3 in
      let o1 = nat_cmp (first_rank r xs) (first_rank r ys) in
      let o2 = nat_cmp (first_rank r xs1) (first_rank r ys1) in
      let o3 = nat_cmp (first_rank r xs2) (first_rank r ys2) in
      let o4 = nat_cmp (first_rank r xs3) (first_rank r ys3) in
      let o5 = nat_cmp (first_rank r xs4) (first_rank r ys4) in
      let fourth = step o4 o5 xs3 ys3 refl (first_less xs4 ys4) in
      let third = step o3 (ordering_then o4 o5) xs2 ys2 refl fourth in
      let second = step o2 (ordering_then o3 (ordering_then o4 o5)) xs1 ys1 refl third in
      let all = ordering_then o1 (ordering_then o2 (ordering_then o3 (ordering_then o4 o5))) in
      step o1 (ordering_then o2 (ordering_then o3 (ordering_then o4 o5))) xs ys refl second
      (sym (ap (λ o. ordering_then o all) (nat_same k)) ∙ h)

val_ranking : IsRanking val_rank val_cmp
val_ranking = record {
  some = λ v. rank_some (val_place v) false;
  less = λ v w h. by_val v w (rank_less (val_place v) (val_place w) false false h);
  same = λ v w e h. let s = rank_same (val_place v) (val_place w) false false e h in val_tied v w s.0 s.1;
}
  where
    by_val : (v w : Val ℕ) → RankedBy (val_place v) (val_place w) false false → val_cmp v w ≡ Less
    by_val v w (by_place h) = val_less v w h
    by_val v w (by_mutability e f h) = cc

field_ranking : IsRanking field_rank field_cmp
field_ranking = record {
  some = λ f. rank_some (storage_place f.element_type) f.mutable;
  less = λ f g h. by_field f g (rank_less (storage_place f.element_type) (storage_place g.element_type)
      f.mutable g.mutable h);
  same = λ f g e h. let s = rank_same (storage_place f.element_type) (storage_place g.element_type) f.mutable
      g.mutable e h in ap (λ o. ordering_then o (bool_cmp f.mutable g.mutable))
      (storage_tied f.element_type g.element_type s.0 s.1) ∙ s.2;
}
  where
    by_field : (f g : Field ℕ) → RankedBy (storage_place f.element_type) (storage_place g.element_type)
        f.mutable g.mutable → field_cmp f g ≡ Less
    by_field f g (by_place h) = ap (λ o. ordering_then o (bool_cmp f.mutable g.mutable))
        (storage_less f.element_type g.element_type h)
    by_field f g (by_mutability e t h) = ap (λ o. ordering_then o (bool_cmp f.mutable g.mutable))
        (storage_tied f.element_type g.element_type e t) ∙ h

-- the mark is less than each value
abbrev item_cmp : Option (Val ℕ) → Option (Val ℕ) → Ordering
item_cmp None None = Equal
item_cmp None (Some w) = Less
item_cmp (Some v) None = Greater
item_cmp (Some v) (Some w) = val_cmp v w

value_more : (i : ℕ) → nat_cmp (rank i false) 1 ≡ Greater
value_more i = let more : 1 < rank i false = omega arith in grind (arith, nat_tests, more)

item_ranking : IsRanking item_rank item_cmp
item_ranking = record { some = some_item; less = less_item; same = same_item }
  where
    some_item : (x : Option (Val ℕ)) → nat_cmp (item_rank x) 0 ≡ Greater
    some_item None = refl
    some_item (Some v) = val_ranking.some v

    less_item : (x y : Option (Val ℕ)) → nat_cmp (item_rank x) (item_rank y) ≡ Less → item_cmp x y ≡ Less
    less_item None None h = cc
    less_item None (Some w) h = refl
    less_item (Some v) None h = let k : Greater ≡ Less = sym (value_more (val_place v)) ∙ h in cc
    less_item (Some v) (Some w) h = val_ranking.less v w h

    same_item : (x y : Option (Val ℕ)) → item_rank x ≡ item_rank y → is_open (item_rank x) ≡ false →
        item_cmp x y ≡ Equal
    same_item None None e h = refl
    same_item None (Some w) e h = let k : Greater ≡ Equal = sym (value_more (val_place w))
        ∙ alike (val_rank w) 1 (sym e) in cc
    same_item (Some v) None e h = let k : Greater ≡ Equal = sym (value_more (val_place v))
        ∙ alike (val_rank v) 1 e in cc
    same_item (Some v) (Some w) e h = val_ranking.same v w e h

values_cmp :
    (vs ws : List (Val ℕ)) →
    slice_cmp item_cmp (map Some vs) (map Some ws) ≡ slice_cmp val_cmp vs ws
values_cmp [] [] = refl
values_cmp [] (w ∷ ws) = refl
values_cmp (v ∷ vs) [] = refl
values_cmp (v ∷ vs) (w ∷ ws) = ap (ordering_then (val_cmp v w)) (values_cmp vs ws)

then_twice :
    (o p q : Ordering) → ordering_then o (ordering_then p q) ≡ ordering_then (ordering_then o p) q
then_twice Less p q = refl
then_twice Equal p q = refl
then_twice Greater p q = refl

-- with a mark between parameters and results these compare as one list
signatures_cmp :
    (ps qs rs ss : List (Val ℕ)) →
    slice_cmp item_cmp (marked_items ps true rs) (marked_items qs true ss) ≡
    ordering_then (slice_cmp val_cmp ps qs) (slice_cmp val_cmp rs ss)
signatures_cmp [] [] rs ss = values_cmp rs ss
signatures_cmp [] (q ∷ qs) rs ss = refl
signatures_cmp (p ∷ ps) [] rs ss = refl
signatures_cmp (p ∷ ps) (q ∷ qs) rs ss = ap (ordering_then (val_cmp p q)) (signatures_cmp ps qs rs ss)
    ∙ then_twice (val_cmp p q) (slice_cmp val_cmp ps qs) (slice_cmp val_cmp rs ss)

-- the array's one field
array_less : (f g : Field ℕ) → slice_cmp field_cmp (f ∷ []) (g ∷ []) ≡ Less → field_cmp f g ≡ Less
array_less f g h = alone (field_cmp f g) h
  where
    alone : (o : Ordering) → ordering_then o Equal ≡ Less → o ≡ Less
    alone Less h = refl
    alone Equal h = cc
    alone Greater h = cc

composite_less :
    (c d : Composite) → sort_key_cmp (composite_sort_key c) (composite_sort_key d) ≡ Less →
    composite_cmp c d ≡ Less
composite_less (Function ps rs) (Function qs ss) h = sym (signatures_cmp ps qs rs ss)
    ∙ ranks_less item_rank item_cmp item_ranking 0 (marked_items ps true rs) (marked_items qs true ss) h
composite_less (Function ps rs) (Struct gs) h = refl
composite_less (Function ps rs) (Array g) h = refl
composite_less (Struct fs) (Function qs ss) h = cc
composite_less (Struct fs) (Struct gs) h = ranks_less field_rank field_cmp field_ranking 1 fs gs h
composite_less (Struct fs) (Array g) h = refl
composite_less (Array f) (Function qs ss) h = cc
composite_less (Array f) (Struct gs) h = cc
composite_less (Array f) (Array g) h =
    array_less f g (ranks_less field_rank field_cmp field_ranking 2 (f ∷ []) (g ∷ []) h)

definition_less :
    (d e : Definition) →
    sort_key_cmp (composite_sort_key d.composite) (composite_sort_key e.composite) ≡ Less →
    definition_cmp d e ≡ Less
definition_less d e h = then_less _ _ (composite_less d.composite e.composite h)

-- the number at the place p decides first, then q
by_both :
    {A : Type 0} {p q : A → A → Ordering} → IsTotalOrder p → IsTotalOrder q →
    IsTotalOrder (λ x y. ordering_then (p x y) (q x y))
by_both a b = then_total a b

keys_total : IsTotalOrder sort_key_cmp
keys_total = by_both (on_total (λ (w : SortKey). w.0) nat_cmp_total)
    (by_both (on_total (λ (w : SortKey). w.1) nat_cmp_total)
    (by_both (on_total (λ (w : SortKey). w.2) nat_cmp_total)
    (by_both (on_total (λ (w : SortKey). w.3) nat_cmp_total)
    (by_both (on_total (λ (w : SortKey). w.4) nat_cmp_total)
    (on_total (λ (w : SortKey). w.5) nat_cmp_total)))))

definition_greater :
    (d e : Definition) →
    sort_key_cmp (composite_sort_key d.composite) (composite_sort_key e.composite) ≡ Greater →
    definition_cmp d e ≡ Greater
definition_greater d e h = definitions_total.antisymm d e ∙ ap ordering_reverse (definition_less e d
    (keys_total.antisymm (composite_sort_key e.composite) (composite_sort_key d.composite)
    ∙ ap ordering_reverse h))

regrouped :
    (a b c d e f : Ordering) →
    ordering_then (ordering_then (ordering_then (ordering_then (ordering_then a b) c) d) e) f ≡
    ordering_then a (ordering_then b (ordering_then c (ordering_then d (ordering_then e f))))
regrouped Equal Equal Equal Equal Equal f = refl
regrouped a b c d e f = refl

-- the order of tuples is that of keys
abbrev pub tuple_cmp : SortKey → SortKey → Ordering
tuple_cmp v w = ordering_then (ordering_then
    (ordering_then (ordering_then (ordering_then (nat_cmp v.0 w.0) (nat_cmp v.1 w.1)) (nat_cmp v.2 w.2))
    (nat_cmp v.3 w.3)) (nat_cmp v.4 w.4)) (nat_cmp v.5 w.5)

pub tuples_are : (v w : SortKey) → tuple_cmp v w ≡ sort_key_cmp v w
tuples_are v w = regrouped (nat_cmp v.0 w.0) (nat_cmp v.1 w.1) (nat_cmp v.2 w.2) (nat_cmp v.3 w.3)
    (nat_cmp v.4 w.4) (nat_cmp v.5 w.5)

compared :
    (v w : SortKey) (d e : Definition) (o p : Ordering) → v ≡ composite_sort_key d.composite →
    w ≡ composite_sort_key e.composite → o ≡ tuple_cmp v w → o ≡ p →
    sort_key_cmp (composite_sort_key d.composite) (composite_sort_key e.composite) ≡ p
compared v w d e o p a b of is = ap (sort_key_cmp (composite_sort_key d.composite)) (sym b)
    ∙ (ap (λ x. sort_key_cmp x w) (sym a) ∙ (sym (tuples_are v w) ∙ (sym of ∙ is)))

-- what the comparison of two keys says of their definitions

pub less_by_key :
    (v w : SortKey) (d e : Definition) (o : Ordering) → v ≡ composite_sort_key d.composite →
    w ≡ composite_sort_key e.composite → o ≡ tuple_cmp v w → o ≡ Less → Less ≡ definition_cmp d e
less_by_key v w d e o a b of is = sym (definition_less d e (compared v w d e o Less a b of is))

pub greater_by_key :
    (v w : SortKey) (d e : Definition) (o : Ordering) → v ≡ composite_sort_key d.composite →
    w ≡ composite_sort_key e.composite → o ≡ tuple_cmp v w → o ≡ Greater →
    Greater ≡ definition_cmp d e
greater_by_key v w d e o a b of is = sym (definition_greater d e (compared v w d e o Greater a b of is))
