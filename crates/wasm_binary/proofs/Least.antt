-- No text is shorter than the one that is written.
use Rattle.std.proofs.Common.{◌≡◌, ℕ, suc, ◌+◌, ◌^◌, ◌≤◌, Bool, true, false, List, [], ◌∷◌, ◌++◌, length, Option, Some, None, ap, ◌∙◌, arith, le_refl, suc-le-suc, length-append, append-nil}
use Rattle.std.specs.List.{flat_map}
use Rattle.std.proofs.lemmas.List.Concat.{flat_map-cons}
use Rattle.walrus_ty.specs.Definition.{supertype_names}
use Rattle.walrus_ty.specs.declared.ty.value.Heap.{Heap}
use Rattle.walrus_ty.specs.declared.records.CompAt.{CompAt}
use Rattle.wasm_binary.specs.Leb128.{IsU32}
use Rattle.wasm_binary.specs.Grammar.{AreItems, none, next, IsVec, counted, IsHeapType, abstract_type, index, exact_index, IsRefType, written_out, abbreviated, IsValType, i32, i64, f32, f64, v128, ref, IsStorageType, i8, i16, value, mutability_code, IsFieldType, field, IsCompType, array, struct, function, IsSubType, declared, plain, IsRecType, rec, single, IsTypes}
use Rattle.wasm_binary.specs.Steps.Writing.{integer_text, u32_text, vec_text, heap_text, nullable_text, reference_text, val_text, storage_text, field_text, comp_text, supertype_text, entry_text, group_text}
use Rattle.wasm_binary.proofs.Shortest.{integer_least}

abbrev pub IsLeast : {A : Type 0} → (List ℕ → A → Type 0) → (A → List ℕ) → Type 0
IsLeast IsText text = (bytes : List ℕ) (value : _) → IsText bytes value → length (text value) ≤ length bytes

pub u32_least : (bytes : List ℕ) (n : ℕ) → IsU32 bytes n → length (u32_text n) ≤ length bytes
u32_least bytes n h = integer_least 4 0x80 (2 ^ 32) bytes n h

items_least : {A : Type 0} (IsText : List ℕ → A → Type 0) (text : A → List ℕ) → IsLeast IsText text →
    (bytes : List ℕ) (items : List A) → AreItems IsText bytes items →
    length (flat_map text items) ≤ length bytes
items_least IsText text least _ _ none = le_refl 0
items_least IsText text least _ _ (next bytes others item items h hs) =
    let a = least bytes item h in
    let b = items_least IsText text least others items hs in
    let long : length (flat_map text (item ∷ items)) ≡ length (text item) + length (flat_map text items) =
    ap (λ (u : List ℕ). length u) (flat_map-cons text item items)
    ∙ length-append (text item) (flat_map text items) in
    omega (arith, a, b, long, length-append bytes others)

pub vec_least : {A : Type 0} (IsText : List ℕ → A → Type 0) (text : A → List ℕ) → IsLeast IsText text →
    IsLeast (IsVec IsText) (vec_text text)
vec_least IsText text least _ _ (counted count texts items h hs) =
    let a = u32_least count (length items) h in
    let b = items_least IsText text least texts items hs in
    omega (
      arith,
      a,
      b,
      length-append (u32_text (length items)) (flat_map text items),
      length-append count texts,
    )

-- ---- value types

heap_least : IsLeast IsHeapType heap_text
heap_least _ _ (abstract_type a) = le_refl 1
heap_least _ _ (index bytes k h) = integer_least 4 0x40 (2 ^ 32) bytes k h
heap_least _ _ (exact_index bytes k h) = suc-le-suc (u32_least bytes k h)

nullable_least : (bytes : List ℕ) (h : Heap ℕ) → IsHeapType bytes h →
    length (nullable_text h) ≤ suc (length bytes)
nullable_least _ _ (abstract_type a) = omega arith
nullable_least _ _ (index bytes k h) = suc-le-suc (integer_least 4 0x40 (2 ^ 32) bytes k h)
nullable_least _ _ (exact_index bytes k h) = suc-le-suc (suc-le-suc (u32_least bytes k h))

reference_least : IsLeast IsRefType reference_text
reference_least _ _ (written_out bytes true h t) = nullable_least bytes h t
reference_least _ _ (written_out bytes false h t) = suc-le-suc (heap_least bytes h t)
reference_least _ _ (abbreviated a) = le_refl 1

pub val_least : IsLeast IsValType val_text
val_least _ _ i32 = le_refl 1
val_least _ _ i64 = le_refl 1
val_least _ _ f32 = le_refl 1
val_least _ _ f64 = le_refl 1
val_least _ _ v128 = le_refl 1
val_least _ _ (ref bytes r h) = reference_least bytes r h

-- ---- fields and composite types

storage_least : IsLeast IsStorageType storage_text
storage_least _ _ i8 = le_refl 1
storage_least _ _ i16 = le_refl 1
storage_least _ _ (value bytes v h) = val_least bytes v h

pub field_least : IsLeast IsFieldType field_text
field_least _ _ (field bytes s m h) =
    let a = storage_least bytes s h in
    omega (
      arith,
      a,
      length-append (storage_text s) (mutability_code m ∷ []),
      length-append bytes (mutability_code m ∷ []),
    )

pub comp_least : IsLeast IsCompType comp_text
comp_least _ _ (array bytes f h) = suc-le-suc (field_least bytes f h)
comp_least _ _ (struct bytes fs h) = suc-le-suc (vec_least IsFieldType field_text field_least bytes fs h)
comp_least _ _ (function first second ps rs h k) =
    let a = vec_least IsValType val_text val_least first ps h in
    let b = vec_least IsValType val_text val_least second rs k in
    let both : length (vec_text val_text ps ++ vec_text val_text rs) ≤ length (first ++ second) =
    omega (
      arith,
      a,
      b,
      length-append (vec_text val_text ps) (vec_text val_text rs),
      length-append first second,
    ) in
    suc-le-suc both

-- ---- definitions and groups

supertype_least : (bytes : List ℕ) (s : Option ℕ) → IsVec IsU32 bytes (supertype_names s) →
    length (supertype_text s) ≤ length bytes
unfolding integer_text
supertype_least bytes None h = vec_least IsU32 u32_text u32_least bytes [] h
supertype_least bytes (Some k) h =
    let a = vec_least IsU32 u32_text u32_least bytes (k ∷ []) h in
    let same : length (flat_map u32_text (k ∷ [])) ≡ length (u32_text k) =
    ap (λ (u : List ℕ). length u) (flat_map-cons u32_text k [] ∙ append-nil (u32_text k)) in
    omega (arith, a, same)

declared_least : (is_final : Bool) (supers bytes : List ℕ) (s : Option ℕ) (c : CompAt) →
    length (supertype_text s) ≤ length supers → length (comp_text c) ≤ length bytes →
    length (supertype_text s ++ comp_text c) ≤ length (supers ++ bytes)
declared_least is_final supers bytes s c h k =
    omega (arith, h, k, length-append (supertype_text s) (comp_text c), length-append supers bytes)

pub entry_least : IsLeast IsSubType entry_text
entry_least _ _ (declared supers bytes is_final (Some n) c h k) =
    suc-le-suc (declared_least is_final supers bytes (Some n) c (supertype_least supers (Some n) h)
    (comp_least bytes c k))
entry_least _ _ (declared supers bytes false None c h k) =
    suc-le-suc (declared_least false supers bytes None c (supertype_least supers None h)
    (comp_least bytes c k))
entry_least _ _ (declared supers bytes true None c h k) =
    let a = comp_least bytes c k in
    let long : length (comp_text c) ≤ suc (length (supers ++ bytes)) =
    omega (arith, a, length-append supers bytes) in long
entry_least _ _ (plain bytes c h) = comp_least bytes c h

pub group_least : IsLeast IsRecType group_text
group_least _ _ (rec bytes es h) = suc-le-suc (vec_least IsSubType entry_text entry_least bytes es h)
group_least _ _ (single bytes e h) = entry_least bytes e h

pub types_least : IsLeast IsTypes (vec_text group_text)
types_least = vec_least IsRecType group_text group_least
