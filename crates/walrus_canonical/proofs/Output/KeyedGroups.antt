-- Of two groups the one with the lesser key is less.
use Rattle.std.proofs.Common.{◌≡◌, ℕ, Bool, true, false, List, [], ◌∷◌, ◌+◌, ◌*◌, length, map, cond, refl, ap, sym, ◌∙◌, arith}
use Rattle.std.specs.Prelude.{Option, Some, None}
use Rattle.std.specs.declared.cmp.Ordering.{Ordering}
use Rattle.std.specs.declared.cmp.Ordering.TheVariants.{Less, Equal, Greater}
use Rattle.std.specs.Ordering.{nat_cmp, ordering_then}
use Rattle.std.specs.Option.{option_map}
use Rattle.std.proofs.lemmas.Bool.Decides.{nat_tests}
use Rattle.walrus_ty.specs.declared.ty.value.Heap.{Heap}
use Rattle.walrus_ty.specs.declared.ty.value.Heap.TheVariants as heap
use Rattle.walrus_ty.specs.declared.ty.value.Val.{Val}
use Rattle.walrus_ty.specs.declared.ty.value.Val.TheVariants as val
use Rattle.walrus_ty.specs.declared.ty.value.Storage.{Storage}
use Rattle.walrus_ty.specs.declared.ty.value.Storage.TheVariants as storage
use Rattle.walrus_ty.specs.declared.ty.value.Field.{Field}
use Rattle.walrus_ty.specs.declared.records.EntryAt.{EntryAt}
use Rattle.walrus_ty.specs.Definition.{Composite, Function, Struct, Array, Definition, definition_cmp, rename, rename_composite}
use Rattle.walrus_ty.specs.Records.{entry_definition}
use Rattle.walrus_ty.specs.Value.{rename_heap, rename_val, rename_storage, rename_field, bool_index}
use Rattle.walrus_normal_form.specs.SortKeys.{SortKey, sort_key_cmp, composite_sort_key, heap_place, val_place, storage_place, heap_places, first_reference, rank, is_open, field_rank, item_rank, marked_items, first_rank, after_first, ranks}
use Rattle.walrus_canonical.specs.Steps.GroupKeys.{group_key, no_key}
use Rattle.walrus_canonical.specs.Steps.Shown.{definitions_cmp, own_base, shown, shown_definitions}

-- names leave the ranks as they are

heap_stays : (m : ℕ → ℕ) (h : Heap ℕ) → heap_place (rename_heap m h) ≡ heap_place h
heap_stays m (heap.Abstract a) = refl
heap_stays m (heap.Concrete k) = refl
heap_stays m (heap.Exact k) = refl

val_stays : (m : ℕ → ℕ) (v : Val ℕ) → val_place (rename_val m v) ≡ val_place v
val_stays m (val.Ref r) =
    ap (λ p. first_reference + (heap_places * bool_index r.nullable + p)) (heap_stays m r.heap_type)
val_stays m val.I32 = refl
val_stays m val.I64 = refl
val_stays m val.F32 = refl
val_stays m val.F64 = refl
val_stays m val.V128 = refl

storage_stays : (m : ℕ → ℕ) (s : Storage ℕ) → storage_place (rename_storage m s) ≡ storage_place s
storage_stays m (storage.Val v) = val_stays m v
storage_stays m storage.I8 = refl
storage_stays m storage.I16 = refl

field_rank_stays : (m : ℕ → ℕ) (f : Field ℕ) → field_rank (rename_field m f) ≡ field_rank f
field_rank_stays m f = ap (λ p. rank p f.mutable) (storage_stays m f.element_type)

item_rank_stays :
    (m : ℕ → ℕ) (o : Option (Val ℕ)) → item_rank (option_map (rename_val m) o) ≡ item_rank o
item_rank_stays m None = refl
item_rank_stays m (Some v) = ap (λ p. rank p false) (val_stays m v)

first_stays :
    {A : Type 0} (r : A → ℕ) (f : A → A) → ((a : A) → r (f a) ≡ r a) → (xs : List A) →
    first_rank r (map f xs) ≡ first_rank r xs
first_stays r f same [] = refl
first_stays r f same (x ∷ xs) = same x

cond_map :
    {A : Type 0} (f : A → A) (b : Bool) (xs : List A) → cond b [] (map f xs) ≡ map f (cond b [] xs)
cond_map f true xs = refl
cond_map f false xs = refl

after_stays :
    {A : Type 0} (r : A → ℕ) (f : A → A) → ((a : A) → r (f a) ≡ r a) → (xs : List A) →
    after_first r (map f xs) ≡ map f (after_first r xs)
after_stays r f same [] = refl
after_stays r f same (x ∷ xs) =
    ap (λ n. cond (is_open n) [] (map f xs)) (same x) ∙ cond_map f (is_open (r x)) xs

ranks_stay :
    {A : Type 0} (n : ℕ) (r : A → ℕ) (f : A → A) → ((a : A) → r (f a) ≡ r a) → (xs : List A) →
    ranks n r (map f xs) ≡ ranks n r xs
ranks_stay n r f same xs =
    let ys = after_first r xs in
    let zs = after_first r ys in
    let us = after_first r zs in
    let after = after_stays r f same in
    let first = first_stays r f same in
    let vs = after_first r us in
    rw (after xs, after ys, after zs, after us, first xs, first ys, first zs, first us, first vs) refl

items_renamed :
    (m : ℕ → ℕ) (ps rs : List (Val ℕ)) →
    marked_items (map (rename_val m) ps) true (map (rename_val m) rs) ≡
    map (option_map (rename_val m)) (marked_items ps true rs)
items_renamed m [] rs = ap (λ xs. None ∷ xs) (somes m rs)
  where
    somes : (m : ℕ → ℕ) (vs : List (Val ℕ)) →
        map Some (map (rename_val m) vs) ≡ map (option_map (rename_val m)) (map Some vs)
    somes m [] = refl
    somes m (v ∷ vs) = ap (λ xs. Some (rename_val m v) ∷ xs) (somes m vs)
items_renamed m (p ∷ ps) rs = ap (λ xs. Some (rename_val m p) ∷ xs) (items_renamed m ps rs)

key_stays : (m : ℕ → ℕ) (c : Composite) → composite_sort_key (rename_composite m c) ≡ composite_sort_key c
key_stays m (Function ps rs) =
    ap (ranks 0 item_rank) (items_renamed m ps rs)
    ∙ ranks_stay 0 item_rank (option_map (rename_val m)) (item_rank_stays m) (marked_items ps true rs)
key_stays m (Struct fs) = ranks_stay 1 field_rank (rename_field m) (field_rank_stays m) fs
key_stays m (Array f) = ranks_stay 2 field_rank (rename_field m) (field_rank_stays m) (f ∷ [])

none_below : (n : ℕ) → ¬ (nat_cmp n 0 ≡ Less)
none_below n h = grind (arith, nat_tests)

none_above : (n : ℕ) → ¬ (nat_cmp 0 n ≡ Greater)
none_above n h = grind (arith, nat_tests)

then_less : (o p : Ordering) → ¬ (o ≡ Less) → ¬ (p ≡ Less) → ¬ (ordering_then o p ≡ Less)
then_less Less p h k e = h refl
then_less Equal p h k e = k e
then_less Greater p h k e = cc

then_greater :
    (o p : Ordering) → ¬ (o ≡ Greater) → ¬ (p ≡ Greater) → ¬ (ordering_then o p ≡ Greater)
then_greater Less p h k e = cc
then_greater Equal p h k e = k e
then_greater Greater p h k e = h refl

not_less : (v : SortKey) → ¬ (sort_key_cmp v no_key ≡ Less)
not_less v = then_less _ _ (none_below v.0) (then_less _ _ (none_below v.1) (then_less _ _ (none_below v.2)
    (then_less _ _ (none_below v.3) (then_less _ _ (none_below v.4) (none_below v.5)))))

not_greater : (v : SortKey) → ¬ (sort_key_cmp no_key v ≡ Greater)
not_greater v = then_greater _ _ (none_above v.0) (then_greater _ _ (none_above v.1)
    (then_greater _ _ (none_above v.2) (then_greater _ _ (none_above v.3)
    (then_greater _ _ (none_above v.4) (none_above v.5)))))

-- what is known of definitions by their keys, where these compare as o
abbrev ByKeys : SortKey → SortKey → Ordering → Ordering → Type 0
ByKeys v w o p =
    (d e : Definition) → v ≡ composite_sort_key d.composite → w ≡ composite_sort_key e.composite →
    o ≡ p → definition_cmp d e ≡ p

-- where the first keys decide, they decide the order of the groups
by_first_key :
    (d e : EntryAt) (ds es : List EntryAt) (v w : SortKey) (o p : Ordering) → v ≡ group_key (d ∷ ds) →
    w ≡ group_key (e ∷ es) → ByKeys v w o p → o ≡ p → ordering_then p (definitions_cmp
    (map (rename (shown (own_base (length (map entry_definition (d ∷ ds)))))) (map entry_definition ds))
    (map (rename (shown (own_base (length (map entry_definition (e ∷ es)))))) (map entry_definition es))) ≡
    definitions_cmp (shown_definitions (map entry_definition (d ∷ ds)))
    (shown_definitions (map entry_definition (e ∷ es)))
by_first_key d e ds es v w o p a b by is =
    let x = entry_definition d in
    let y = entry_definition e in
    let f = shown (own_base (length (map entry_definition (d ∷ ds)))) in
    let g = shown (own_base (length (map entry_definition (e ∷ es)))) in
    ap (λ q. ordering_then q (definitions_cmp (map (rename f) (map entry_definition ds))
    (map (rename g) (map entry_definition es))))
    (sym (by (rename f x) (rename g y) (a ∙ sym (key_stays f x.composite)) (b ∙ sym (key_stays g y.composite))
    is))

pub less_by_group_key :
    (ds es : List EntryAt) (v w : SortKey) (o : Ordering) → v ≡ group_key ds → w ≡ group_key es →
    o ≡ sort_key_cmp v w → ByKeys v w o Less → o ≡ Less →
    Less ≡ definitions_cmp (shown_definitions (map entry_definition ds))
    (shown_definitions (map entry_definition es))
less_by_group_key ds [] v w o a b of by is =
    absurd (not_less v (ap (sort_key_cmp v) (sym b) ∙ sym of ∙ is))
less_by_group_key [] (e ∷ es) v w o a b of by is = refl
less_by_group_key (d ∷ ds) (e ∷ es) v w o a b of by is = by_first_key d e ds es v w o Less a b by is

pub greater_by_group_key :
    (ds es : List EntryAt) (v w : SortKey) (o : Ordering) → v ≡ group_key ds → w ≡ group_key es →
    o ≡ sort_key_cmp v w → ByKeys v w o Greater → o ≡ Greater →
    Greater ≡ definitions_cmp (shown_definitions (map entry_definition ds))
    (shown_definitions (map entry_definition es))
greater_by_group_key [] es v w o a b of by is =
    absurd (not_greater w (ap (λ u. sort_key_cmp u w) (sym a) ∙ sym of ∙ is))
greater_by_group_key (d ∷ ds) [] v w o a b of by is = refl
greater_by_group_key (d ∷ ds) (e ∷ es) v w o a b of by is = by_first_key d e ds es v w o Greater a b by is
