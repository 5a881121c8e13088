-- The comparison of value types, fields and lists. It computes alike over ids of a module and over
-- indices of a section.
use Rattle.std.proofs.Common.{◌≡◌, ℕ, Bool, true, false, List, [], ◌∷◌, Option, None, refl, ap, ◌∙◌}
use Rattle.std.specs.declared.cmp.Ordering.{Ordering}
use Rattle.std.specs.{Ordering.nat_cmp, Ordering.ordering_then, Cmp.Lexicographic.slice_cmp}
use denote.Builtin.{u32}
use Rattle.std.specs.contracts.prelude.U32Ord.TheImpl as number_order
use Rattle.std.specs.contracts.prelude.U32Eq.TheImpl as number_eq
use Rattle.std.specs.contracts.prelude.U32PartialEq.TheImpl as number_partial_eq
use Rattle.std.specs.contracts.prelude.U32PartialOrd.TheImpl as number_partial_order
use Rattle.std.specs.contracts.prelude.BoolOrd.TheImpl as bool_order
use Rattle.std.specs.contracts.prelude.OptionOrd.TheImpl as option_order
use Rattle.walrus_ty.specs.contracts.ty.value.AbstractHeapTypeOrd.TheImpl as abstract_order
use Rattle.walrus_ty.specs.contracts.ty.value.HeapOrd.TheImpl as heap_order
use Rattle.walrus_ty.specs.contracts.ty.value.ReferenceOrd.TheImpl as reference_order
use Rattle.walrus_ty.specs.contracts.ty.value.ValOrd.TheImpl as val_order
use Rattle.walrus_ty.specs.contracts.ty.value.StorageOrd.TheImpl as storage_order
use Rattle.walrus_ty.specs.contracts.ty.value.FieldOrd.TheImpl as field_order
use Rattle.walrus_ty.specs.declared.ty.value.{AbstractHeapType.AbstractHeapType, Heap.Heap, Reference.Reference, Val.Val, Storage.Storage, Field.Field}
use Rattle.walrus_ty.specs.declared.ty.value.AbstractHeapType.TheVariants as abstract
use Rattle.walrus_ty.specs.declared.ty.value.Heap.TheVariants as heap
use Rattle.walrus_ty.specs.declared.ty.value.Val.TheVariants as val
use Rattle.walrus_ty.specs.declared.ty.value.Storage.TheVariants as storage
use Rattle.walrus_ty.specs.Value.{abstract_index, heap_cmp, reference_cmp, val_cmp, storage_cmp, field_cmp, bool_cmp}
use Rattle.walrus_ty.specs.Definition.{supertype_cmp}

pub bool_is : (a b : Bool) → (bool_order.ghosts).cmp a b ≡ bool_cmp a b
bool_is true true = refl
bool_is true false = refl
bool_is false true = refl
bool_is false false = refl

-- Where a name covers several cases, a pattern for the second argument makes each a case of its own.
abstract_is :
    (a b : AbstractHeapType) →
    (abstract_order.ghosts).cmp a b ≡ nat_cmp (abstract_index a) (abstract_index b)
abstract_is abstract.Func abstract.Func = refl
abstract_is a abstract.Func = refl
abstract_is a b = refl

abbrev heaps : Heap ℕ → Heap ℕ → Ordering
heaps = (heap_order.ghosts u32 number_order.ghosts number_order.dict number_eq.ghosts number_eq.dict
    number_partial_eq.ghosts number_partial_eq.dict number_partial_order.ghosts
    number_partial_order.dict).cmp

abbrev references : Reference ℕ → Reference ℕ → Ordering
references = (reference_order.ghosts u32 number_order.ghosts number_order.dict number_eq.ghosts
    number_eq.dict number_partial_eq.ghosts number_partial_eq.dict number_partial_order.ghosts
    number_partial_order.dict).cmp

abbrev pub vals : Val ℕ → Val ℕ → Ordering
vals = (val_order.ghosts u32 number_order.ghosts number_order.dict number_eq.ghosts number_eq.dict
    number_partial_eq.ghosts number_partial_eq.dict number_partial_order.ghosts
    number_partial_order.dict).cmp

abbrev storages : Storage ℕ → Storage ℕ → Ordering
storages = (storage_order.ghosts u32 number_order.ghosts number_order.dict number_eq.ghosts
    number_eq.dict number_partial_eq.ghosts number_partial_eq.dict number_partial_order.ghosts
    number_partial_order.dict).cmp

abbrev pub fields : Field ℕ → Field ℕ → Ordering
fields = (field_order.ghosts u32 number_order.ghosts number_order.dict number_eq.ghosts
    number_eq.dict number_partial_eq.ghosts number_partial_eq.dict number_partial_order.ghosts
    number_partial_order.dict).cmp

abbrev pub supertypes : Option ℕ → Option ℕ → Ordering
supertypes = (option_order.ghosts u32 number_order.ghosts number_order.dict number_eq.ghosts
    number_eq.dict number_partial_eq.ghosts number_partial_eq.dict number_partial_order.ghosts
    number_partial_order.dict).cmp

pub heap_is : (h g : Heap ℕ) → heaps h g ≡ heap_cmp h g
heap_is (heap.Abstract a) (heap.Abstract b) = abstract_is a b
heap_is h (heap.Abstract b) = refl
heap_is h g = refl

pub reference_is : (r q : Reference ℕ) → references r q ≡ reference_cmp r q
reference_is r q = ap (λ o. ordering_then o (heaps r.heap_type q.heap_type)) (bool_is r.nullable q.nullable)
    ∙ ap (ordering_then (bool_cmp r.nullable q.nullable)) (heap_is r.heap_type q.heap_type)

pub val_is : (v w : Val ℕ) → vals v w ≡ val_cmp v w
val_is (val.Ref r) (val.Ref q) = reference_is r q
val_is v (val.Ref q) = refl
val_is v w = refl

pub storage_is : (a b : Storage ℕ) → storages a b ≡ storage_cmp a b
storage_is (storage.Val v) (storage.Val w) = val_is v w
storage_is a (storage.Val w) = refl
storage_is a b = refl

pub field_is : (f g : Field ℕ) → fields f g ≡ field_cmp f g
field_is f g = ap (λ o. ordering_then o ((bool_order.ghosts).cmp f.mutable g.mutable))
    (storage_is f.element_type g.element_type)
    ∙ ap (ordering_then (storage_cmp f.element_type g.element_type)) (bool_is f.mutable g.mutable)

pub supertype_is : (o p : Option ℕ) → supertypes o p ≡ supertype_cmp o p
supertype_is None None = refl
supertype_is o None = refl
supertype_is o p = refl

-- lists compare alike where their elements do
lists_are :
    {A : Type 0} (c e : A → A → Ordering) → ((x y : A) → c x y ≡ e x y) → (xs ys : List A) →
    slice_cmp c xs ys ≡ slice_cmp e xs ys
lists_are c e h [] [] = refl
lists_are c e h [] (y ∷ ys) = refl
lists_are c e h (x ∷ xs) [] = refl
lists_are c e h (x ∷ xs) (y ∷ ys) = ap (λ o. ordering_then o (slice_cmp c xs ys)) (h x y)
    ∙ ap (ordering_then (e x y)) (lists_are c e h xs ys)

pub vals_are : (vs ws : List (Val ℕ)) → slice_cmp vals vs ws ≡ slice_cmp val_cmp vs ws
vals_are vs ws = lists_are vals val_cmp val_is vs ws

pub fields_are : (fs gs : List (Field ℕ)) → slice_cmp fields fs gs ≡ slice_cmp field_cmp fs gs
fields_are fs gs = lists_are fields field_cmp field_is fs gs

pub lists_of_vals_are :
    (ps rs qs ss : List (Val ℕ)) →
    ordering_then (slice_cmp vals ps qs) (slice_cmp vals rs ss) ≡
    ordering_then (slice_cmp val_cmp ps qs) (slice_cmp val_cmp rs ss)
lists_of_vals_are ps rs qs ss = ap (λ o. ordering_then o (slice_cmp vals rs ss)) (vals_are ps qs)
    ∙ ap (ordering_then (slice_cmp val_cmp ps qs)) (vals_are rs ss)

pub then_same :
    (a b c d e f : Ordering) → a ≡ d → b ≡ e → c ≡ f →
    ordering_then a (ordering_then b c) ≡ ordering_then d (ordering_then e f)
then_same a b c d e f p q r = cc
