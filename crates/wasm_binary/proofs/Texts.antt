-- What is written is a text of it, where its parts are texts.
use Rattle.std.proofs.Common.{◌≡◌, ℕ, get_or, take-append-drop, is_some, not, ◌+◌, ◌<◌, ◌^◌, Bool, true, false, List, [], ◌∷◌, ◌++◌, length, take, drop, Option, Some, None, refl, sym, ap, subst, ◌∙◌, append_assoc, append-nil, arith}
use Rattle.std.specs.List.{flat_map}
use Rattle.std.proofs.lemmas.Grind.{flat_map-append}
use Rattle.std.proofs.lemmas.List.{take_more, drop_more}
use Rattle.walrus_ty.specs.Definition.{supertype_names}
use Rattle.walrus_ty.specs.declared.ty.value.Heap.{Heap}
use Rattle.walrus_ty.specs.declared.ty.value.Heap.TheVariants as heap
use Rattle.walrus_ty.specs.declared.ty.value.Reference.{Reference}
use Rattle.walrus_ty.specs.declared.ty.value.Val.{Val}
use Rattle.walrus_ty.specs.declared.ty.value.Field.{Field}
use Rattle.walrus_ty.specs.declared.records.CompAt.{CompAt}
use Rattle.walrus_ty.specs.declared.records.CompAt.TheVariants as comp
use Rattle.walrus_ty.specs.declared.records.GroupAt.TheVariants as group
use Rattle.walrus_ty.specs.declared.records.EntryAt.{EntryAt}
use Rattle.wasm_binary.specs.Leb128.{last, IsU32}
use Rattle.wasm_binary.specs.Grammar.{AreItems, none, IsVec, counted, IsHeapType, reference, IsRefType, written_out, abbreviated, IsValType, IsFieldType, IsCompType, struct, function, IsSubType, declared, plain, IsRecType, rec}
use Rattle.wasm_binary.specs.Steps.Writing.{u32_text, s33_text, vec_text, heap_text, nullable_text, reference_text, val_text, field_text, comp_text, supertype_text, entry_text, group_text}
use Rattle.wasm_binary.specs.Faults.{HasNoText}
use Rattle.wasm_binary.proofs.Lists.{one_item, joined}
use Rattle.wasm_binary.proofs.NoTexts.{no_items}

-- ---- lists

flat_snoc : {A : Type 0} (text : A → List ℕ) (xs : List A) (x : A) →
    flat_map text (xs ++ x ∷ []) ≡ flat_map text xs ++ text x
flat_snoc text xs x =
    flat_map-append text xs (x ∷ []) ∙ ap (λ (u : List ℕ). flat_map text xs ++ u) (append-nil (text x))

pub more_written : {A : Type 0} (text : A → List ℕ) (old mid new : List ℕ) (xs ys : List A) (x : A) →
    ys ≡ xs ++ x ∷ [] → mid ≡ old ++ flat_map text xs → new ≡ mid ++ text x → new ≡ old ++ flat_map text ys
more_written text old mid new xs ys x is h k =
    k ∙ ap (λ (u : List ℕ). u ++ text x) h ∙ append_assoc old (flat_map text xs) (text x)
    ∙ ap (λ (u : List ℕ). old ++ u) (sym (flat_snoc text xs x) ∙ ap (flat_map text) (sym is))

pub more_items : {A : Type 0} (IsText : List ℕ → A → Type 0) (text : A → List ℕ) (xs ys : List A) (x : A) →
    ys ≡ xs ++ x ∷ [] → AreItems IsText (flat_map text xs) xs → IsText (text x) x →
    AreItems IsText (flat_map text ys) ys
more_items IsText text xs ys x is h k =
    rw (is, flat_snoc text xs x) (joined IsText (flat_map text xs) (text x) xs (x ∷ []) h
    (one_item IsText (text x) x k))

-- the item at a place
pub taken : {A : Type 0} (xs : List A) (i : ℕ) (x : A) → i < length xs → x ≡ get_or xs i x →
    take (i + 1) xs ≡ take i xs ++ x ∷ []
taken xs i x lt is = take_more xs i x lt ∙ ap (λ y. take i xs ++ y ∷ []) (sym is)

-- a list with an item that has no text
pub no_list : {A : Type 0} (IsText : List ℕ → A → Type 0) (xs : List A) (i : ℕ) (x : A) → i < length xs →
    x ≡ get_or xs i x → HasNoText IsText x → HasNoText (AreItems IsText) xs
no_list IsText xs i x lt is bad =
    let from : drop i xs ≡ x ∷ drop (i + 1) xs = drop_more xs i x lt
    ∙ ap (λ y. y ∷ drop (i + 1) xs) (sym is) in
    rw (← take-append-drop i xs, from) (no_items IsText (take i xs) x (drop (i + 1) xs) bad)

pub vec_is : {A : Type 0} (IsText : List ℕ → A → Type 0) (text : A → List ℕ) (items : List A) (count : ℕ) →
    count ≡ length items → IsU32 (u32_text count) count → AreItems IsText (flat_map text items) items →
    IsVec IsText (vec_text text items) items
vec_is IsText text items count is h k = counted (u32_text (length items)) (flat_map text items) items
    (subst (λ n. IsU32 (u32_text n) n) is h) k

-- ---- value types

pub nullable_is : (h : Heap ℕ) → IsHeapType (heap_text h) h → IsRefType (nullable_text h) (reference true h)
nullable_is (heap.Abstract a) t = abbreviated a
nullable_is (heap.Concrete k) t = written_out (s33_text k) true (heap.Concrete k) t
nullable_is (heap.Exact k) t = written_out (0x62 ∷ u32_text k) true (heap.Exact k) t

pub reference_nullable : (r : Reference ℕ) → r.nullable ≡ true →
    IsRefType (nullable_text r.heap_type) (reference true r.heap_type) → IsRefType (reference_text r) r
reference_nullable r is t = rw is t

pub reference_never_null : (r : Reference ℕ) → r.nullable ≡ false →
    IsHeapType (heap_text r.heap_type) r.heap_type → IsRefType (reference_text r) r
reference_never_null r is t = rw is (written_out (heap_text r.heap_type) false r.heap_type t)

-- ---- composite types

pub function_is : (ps rs qs ss : List (Val ℕ)) → qs ≡ ps → ss ≡ rs →
    IsVec IsValType (vec_text val_text qs) qs → IsVec IsValType (vec_text val_text ss) ss →
    IsCompType (comp_text (comp.Function ps rs)) (comp.Function ps rs)
function_is ps rs qs ss e f h k =
    function (vec_text val_text ps) (vec_text val_text rs) ps rs
    (subst (λ (u : List (Val ℕ)). IsVec IsValType (vec_text val_text u) u) e h)
    (subst (λ (u : List (Val ℕ)). IsVec IsValType (vec_text val_text u) u) f k)

pub struct_is : (fs gs : List (Field ℕ)) → gs ≡ fs → IsVec IsFieldType (vec_text field_text gs) gs →
    IsCompType (comp_text (comp.Struct fs)) (comp.Struct fs)
struct_is fs gs e h = struct (vec_text field_text fs) fs
    (subst (λ (u : List (Field ℕ)). IsVec IsFieldType (vec_text field_text u) u) e h)

pub rec_is : (es ds : List EntryAt) → ds ≡ es → IsVec IsSubType (vec_text entry_text ds) ds →
    IsRecType (group_text (group.Rec es)) (group.Rec es)
rec_is es ds e h = rec (vec_text entry_text es) es
    (subst (λ (u : List EntryAt). IsVec IsSubType (vec_text entry_text u) u) e h)

-- ---- definitions

pub none_from : (o : Option ℕ) → is_some o ≡ false → o ≡ None
none_from None e = refl
none_from (Some k) e = absurd cc

pub not_none : (o : Option ℕ) (r : Bool) → is_some o ≡ not r → r ≡ false → o ≡ None → ⊥
not_none (Some k) r e f g = absurd cc
not_none None true e f g = absurd cc
not_none None false e f g = absurd cc

pub not_final : (b : Bool) → b ≡ false → b ≡ true → ⊥
not_final true e f = absurd cc
not_final false e f = absurd cc

pub no_supertype_is : IsVec IsU32 (supertype_text None) (supertype_names None)
no_supertype_is = counted (0 ∷ []) [] [] (last (2 ^ 32) 0 (omega arith) (omega arith) (omega arith)) none

pub supertype_is : (k : ℕ) → IsU32 (u32_text k) k →
    IsVec IsU32 (supertype_text (Some k)) (supertype_names (Some k))
supertype_is k h = counted (1 ∷ []) (u32_text k) (k ∷ [])
    (last (2 ^ 32) 1 (omega arith) (omega arith) (omega arith)) (one_item IsU32 (u32_text k) k h)

pub plain_is : (e : EntryAt) → e.is_final ≡ true → e.supertype ≡ None → IsCompType (comp_text e.comp) e.comp →
    IsSubType (entry_text e) e
plain_is e is_final is_none h =
    let made : EntryAt = record { comp = e.comp; is_final = true; supertype = None } in
    let same : made ≡ e = rw (← is_final, ← is_none) refl in
    subst (λ q. IsSubType (entry_text q) q) same (plain (comp_text e.comp) e.comp h)

pub declared_is : (e : EntryAt) → (e.is_final ≡ true → e.supertype ≡ None → ⊥) →
    IsVec IsU32 (supertype_text e.supertype) (supertype_names e.supertype) →
    IsCompType (comp_text e.comp) e.comp → IsSubType (entry_text e) e
declared_is e other h k = by_parts e.is_final e.supertype e.comp other h k
  where
    by_parts : (is_final : Bool) (s : Option ℕ) (c : CompAt) → (is_final ≡ true → s ≡ None → ⊥) →
        IsVec IsU32 (supertype_text s) (supertype_names s) → IsCompType (comp_text c) c
        → IsSubType (entry_text (record { comp = c; is_final = is_final; supertype = s }))
        (record { comp = c; is_final = is_final; supertype = s })
    by_parts is_final (Some k) c other h t = declared (supertype_text (Some k)) (comp_text c) is_final
        (Some k) c h t
    by_parts true None c other h t = absurd (other refl refl)
    by_parts false None c other h t = declared (supertype_text None) (comp_text c) false None c h t
