-- Value types and what they are made of, over numbers that stand for types: what they name, how
-- they are renamed, and their order.
-- WebAssembly core specification, "Types": abstract heap types, heap types, reference types, value
-- types, storage types and what they unpack to, field types.
-- `Exact` is of the custom descriptors proposal.
use Rattle.std.specs.Prelude.{ℕ, Bool, true, false, List, [], ◌∷◌, Option, Some, None}
use Rattle.std.specs.declared.cmp.Ordering.{Ordering}
use Rattle.std.specs.declared.cmp.Ordering.TheVariants.{Less, Equal, Greater}
use Rattle.std.specs.Ordering.{nat_cmp, ordering_then}
use Rattle.walrus_ty.specs.declared.ty.value.AbstractHeapType.{AbstractHeapType}
use Rattle.walrus_ty.specs.declared.ty.value.AbstractHeapType.TheVariants as abstract
use Rattle.walrus_ty.specs.declared.ty.value.Heap.{Heap}
use Rattle.walrus_ty.specs.declared.ty.value.Heap.TheVariants as heap
use Rattle.walrus_ty.specs.declared.ty.value.Reference.{Reference}
use Rattle.walrus_ty.specs.declared.ty.value.Val.{Val}
use Rattle.walrus_ty.specs.declared.ty.value.Val.TheVariants as val
use Rattle.walrus_ty.specs.declared.ty.value.Storage.{Storage}
use Rattle.walrus_ty.specs.declared.ty.value.Storage.TheVariants as storage
use Rattle.walrus_ty.specs.declared.ty.value.Field.{Field}

-- what stands for a type in it, if something does: it is one thing at most

abbrev pub heap_name : {A : Type 0} → Heap A → Option A
heap_name (heap.Abstract a) = None
heap_name (heap.Concrete k) = Some k
heap_name (heap.Exact k) = Some k

abbrev pub reference_name : {A : Type 0} → Reference A → Option A
reference_name r = heap_name r.heap_type

abbrev pub val_name : {A : Type 0} → Val A → Option A
val_name (val.Ref r) = reference_name r
val_name val.I32 = None
val_name val.I64 = None
val_name val.F32 = None
val_name val.F64 = None
val_name val.V128 = None

abbrev pub storage_name : {A : Type 0} → Storage A → Option A
storage_name (storage.Val v) = val_name v
storage_name storage.I8 = None
storage_name storage.I16 = None

abbrev pub field_name : {A : Type 0} → Field A → Option A
field_name f = storage_name f.element_type

-- the type of the values that such a field is read and written with
abbrev pub unpacked_type : {A : Type 0} → Storage A → Val A
unpacked_type (storage.Val v) = v
unpacked_type storage.I8 = val.I32
unpacked_type storage.I16 = val.I32

-- the numbers that stand for types, from left to right

abbrev pub heap_names : Heap ℕ → List ℕ
heap_names (heap.Abstract a) = []
heap_names (heap.Concrete k) = k ∷ []
heap_names (heap.Exact k) = k ∷ []

abbrev pub reference_names : Reference ℕ → List ℕ
reference_names r = heap_names r.heap_type

abbrev pub val_names : Val ℕ → List ℕ
val_names (val.Ref r) = reference_names r
val_names val.I32 = []
val_names val.I64 = []
val_names val.F32 = []
val_names val.F64 = []
val_names val.V128 = []

abbrev pub storage_names : Storage ℕ → List ℕ
storage_names (storage.Val v) = val_names v
storage_names storage.I8 = []
storage_names storage.I16 = []

abbrev pub field_names : Field ℕ → List ℕ
field_names f = storage_names f.element_type

-- values and their parts, with each number k replaced by m k

abbrev pub rename_heap : (ℕ → ℕ) → Heap ℕ → Heap ℕ
rename_heap m (heap.Abstract a) = heap.Abstract a
rename_heap m (heap.Concrete k) = heap.Concrete (m k)
rename_heap m (heap.Exact k) = heap.Exact (m k)

abbrev pub rename_reference : (ℕ → ℕ) → Reference ℕ → Reference ℕ
rename_reference m r = record { nullable = r.nullable; heap_type = rename_heap m r.heap_type }

abbrev pub rename_val : (ℕ → ℕ) → Val ℕ → Val ℕ
rename_val m (val.Ref r) = val.Ref (rename_reference m r)
rename_val m val.I32 = val.I32
rename_val m val.I64 = val.I64
rename_val m val.F32 = val.F32
rename_val m val.F64 = val.F64
rename_val m val.V128 = val.V128

abbrev pub rename_storage : (ℕ → ℕ) → Storage ℕ → Storage ℕ
rename_storage m (storage.Val v) = storage.Val (rename_val m v)
rename_storage m storage.I8 = storage.I8
rename_storage m storage.I16 = storage.I16

abbrev pub rename_field : (ℕ → ℕ) → Field ℕ → Field ℕ
rename_field m f = record { element_type = rename_storage m f.element_type; mutable = f.mutable }

-- the order: false before true, abstract heap types and the cases of each kind in the order in
-- which they are declared, a reference by nullability and then by heap type, a field by what it
-- holds and then by mutability, types by number

abbrev pub bool_index : Bool → ℕ
bool_index false = 0
bool_index true = 1

abbrev pub bool_cmp : Bool → Bool → Ordering
bool_cmp a b = nat_cmp (bool_index a) (bool_index b)

abbrev pub abstract_index : AbstractHeapType → ℕ
abstract_index abstract.Func = 0
abstract_index abstract.Extern = 1
abstract_index abstract.Any = 2
abstract_index abstract.None = 3
abstract_index abstract.NoExtern = 4
abstract_index abstract.NoFunc = 5
abstract_index abstract.Eq = 6
abstract_index abstract.Struct = 7
abstract_index abstract.Array = 8
abstract_index abstract.I31 = 9
abstract_index abstract.Exn = 10
abstract_index abstract.NoExn = 11

abbrev pub heap_cmp : Heap ℕ → Heap ℕ → Ordering
heap_cmp (heap.Abstract a) (heap.Abstract b) = nat_cmp (abstract_index a) (abstract_index b)
heap_cmp (heap.Abstract a) (heap.Concrete l) = Less
heap_cmp (heap.Abstract a) (heap.Exact l) = Less
heap_cmp (heap.Concrete k) (heap.Abstract b) = Greater
heap_cmp (heap.Concrete k) (heap.Concrete l) = nat_cmp k l
heap_cmp (heap.Concrete k) (heap.Exact l) = Less
heap_cmp (heap.Exact k) (heap.Abstract b) = Greater
heap_cmp (heap.Exact k) (heap.Concrete l) = Greater
heap_cmp (heap.Exact k) (heap.Exact l) = nat_cmp k l

abbrev pub reference_cmp : Reference ℕ → Reference ℕ → Ordering
reference_cmp r q =
    ordering_then (bool_cmp r.nullable q.nullable) (heap_cmp r.heap_type q.heap_type)

abbrev pub val_index : Val ℕ → ℕ
val_index val.I32 = 0
val_index val.I64 = 1
val_index val.F32 = 2
val_index val.F64 = 3
val_index val.V128 = 4
val_index (val.Ref r) = 5

abbrev pub val_cmp : Val ℕ → Val ℕ → Ordering
val_cmp (val.Ref r) (val.Ref q) = reference_cmp r q
val_cmp v w = nat_cmp (val_index v) (val_index w)

abbrev pub storage_cmp : Storage ℕ → Storage ℕ → Ordering
storage_cmp (storage.Val v) (storage.Val w) = val_cmp v w
storage_cmp (storage.Val v) storage.I8 = Less
storage_cmp (storage.Val v) storage.I16 = Less
storage_cmp storage.I8 (storage.Val w) = Greater
storage_cmp storage.I8 storage.I8 = Equal
storage_cmp storage.I8 storage.I16 = Less
storage_cmp storage.I16 (storage.Val w) = Greater
storage_cmp storage.I16 storage.I8 = Greater
storage_cmp storage.I16 storage.I16 = Equal

abbrev pub field_cmp : Field ℕ → Field ℕ → Ordering
field_cmp f g =
    ordering_then (storage_cmp f.element_type g.element_type) (bool_cmp f.mutable g.mutable)
