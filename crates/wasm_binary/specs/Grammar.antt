-- The texts of types: which bytes are a text of which part of a type section.
-- WebAssembly core specification, "Binary Format", types and type section; lists are `vec`.
-- `exact_index` is of the custom descriptors proposal.
use Rattle.std.specs.Prelude.{ℕ, Bool, true, false, List, [], ◌∷◌, ◌++◌, length, Option, None}
use Rattle.walrus_ty.specs.Definition.{supertype_names}
use Rattle.walrus_ty.specs.declared.ty.value.AbstractHeapType.{AbstractHeapType}
use Rattle.walrus_ty.specs.declared.ty.value.AbstractHeapType.TheVariants as abstract
use Rattle.walrus_ty.specs.declared.ty.value.Heap.{Heap}
use Rattle.walrus_ty.specs.declared.ty.value.Heap.TheVariants as heap
use Rattle.walrus_ty.specs.declared.ty.value.Reference.{Reference}
use Rattle.walrus_ty.specs.declared.ty.value.Val.{Val}
use Rattle.walrus_ty.specs.declared.ty.value.Val.TheVariants as val
use Rattle.walrus_ty.specs.declared.ty.value.Storage.{Storage}
use Rattle.walrus_ty.specs.declared.ty.value.Storage.TheVariants as storage
use Rattle.walrus_ty.specs.declared.ty.value.Field.{Field}
use Rattle.walrus_ty.specs.declared.records.CompAt.{CompAt}
use Rattle.walrus_ty.specs.declared.records.CompAt.TheVariants as comp
use Rattle.walrus_ty.specs.declared.records.EntryAt.{EntryAt}
use Rattle.walrus_ty.specs.declared.records.GroupAt.{GroupAt}
use Rattle.walrus_ty.specs.declared.records.GroupAt.TheVariants as group
use Rattle.wasm_binary.specs.Leb128.{IsU32, IsS33}

-- ---- lists

-- texts of the items one after another
pub data AreItems {A : Type 0} (IsText : List ℕ → A → Type 0) : List ℕ → List A → Type 0 where
  none : AreItems IsText [] []
  next :
      (text others : List ℕ) (item : A) (items : List A)
      → IsText text item → AreItems IsText others items
      → AreItems IsText (text ++ others) (item ∷ items)

-- how many there are, and their texts
pub data IsVec {A : Type 0} (IsText : List ℕ → A → Type 0) : List ℕ → List A → Type 0 where
  counted :
      (count texts : List ℕ) (items : List A)
      → IsU32 count (length items) → AreItems IsText texts items
      → IsVec IsText (count ++ texts) items

-- ---- heap types, reference types and value types

abbrev pub heap_code : AbstractHeapType → ℕ
heap_code abstract.NoExn = 0x74
heap_code abstract.NoFunc = 0x73
heap_code abstract.NoExtern = 0x72
heap_code abstract.None = 0x71
heap_code abstract.Func = 0x70
heap_code abstract.Extern = 0x6F
heap_code abstract.Any = 0x6E
heap_code abstract.Eq = 0x6D
heap_code abstract.I31 = 0x6C
heap_code abstract.Struct = 0x6B
heap_code abstract.Array = 0x6A
heap_code abstract.Exn = 0x69

pub data IsHeapType : List ℕ → Heap ℕ → Type 0 where
  abstract_type : (a : AbstractHeapType) → IsHeapType (heap_code a ∷ []) (heap.Abstract a)
  index : (bytes : List ℕ) (k : ℕ) → IsS33 bytes k → IsHeapType bytes (heap.Concrete k)
  exact_index :
      (bytes : List ℕ) (k : ℕ) → IsU32 bytes k → IsHeapType (0x62 ∷ bytes) (heap.Exact k)

abbrev pub reference : Bool → Heap ℕ → Reference ℕ
reference nullable h = record { nullable = nullable; heap_type = h }

abbrev pub null_code : Bool → ℕ
null_code true = 0x63
null_code false = 0x64

pub data IsRefType : List ℕ → Reference ℕ → Type 0 where
  written_out :
      (bytes : List ℕ) (nullable : Bool) (h : Heap ℕ) → IsHeapType bytes h
      → IsRefType (null_code nullable ∷ bytes) (reference nullable h)
  abbreviated :
      (a : AbstractHeapType) → IsRefType (heap_code a ∷ []) (reference true (heap.Abstract a))

pub data IsValType : List ℕ → Val ℕ → Type 0 where
  i32 : IsValType (0x7F ∷ []) val.I32
  i64 : IsValType (0x7E ∷ []) val.I64
  f32 : IsValType (0x7D ∷ []) val.F32
  f64 : IsValType (0x7C ∷ []) val.F64
  v128 : IsValType (0x7B ∷ []) val.V128
  ref : (bytes : List ℕ) (r : Reference ℕ) → IsRefType bytes r → IsValType bytes (val.Ref r)

-- ---- fields and composite types

pub data IsStorageType : List ℕ → Storage ℕ → Type 0 where
  i8 : IsStorageType (0x78 ∷ []) storage.I8
  i16 : IsStorageType (0x77 ∷ []) storage.I16
  value : (bytes : List ℕ) (v : Val ℕ) → IsValType bytes v → IsStorageType bytes (storage.Val v)

abbrev pub mutability_code : Bool → ℕ
mutability_code false = 0x00
mutability_code true = 0x01

pub data IsFieldType : List ℕ → Field ℕ → Type 0 where
  field :
      (bytes : List ℕ) (s : Storage ℕ) (mutable : Bool) → IsStorageType bytes s
      → IsFieldType (bytes ++ mutability_code mutable ∷ [])
      (record { element_type = s; mutable = mutable })

pub data IsCompType : List ℕ → CompAt → Type 0 where
  array :
      (bytes : List ℕ) (f : Field ℕ) → IsFieldType bytes f
      → IsCompType (0x5E ∷ bytes) (comp.Array f)
  struct :
      (bytes : List ℕ) (fields : List (Field ℕ)) → IsVec IsFieldType bytes fields
      → IsCompType (0x5F ∷ bytes) (comp.Struct fields)
  function :
      (first second : List ℕ) (params results : List (Val ℕ))
      → IsVec IsValType first params → IsVec IsValType second results
      → IsCompType (0x60 ∷ first ++ second) (comp.Function params results)

-- ---- definitions and groups

abbrev pub sub_code : Bool → ℕ
sub_code true = 0x4F
sub_code false = 0x50

-- A final definition without supertype may also stand as its composite type alone.
pub data IsSubType : List ℕ → EntryAt → Type 0 where
  declared :
      (supers bytes : List ℕ) (is_final : Bool) (supertype : Option ℕ) (c : CompAt)
      → IsVec IsU32 supers (supertype_names supertype) → IsCompType bytes c
      → IsSubType (sub_code is_final ∷ supers ++ bytes)
      (record { comp = c; is_final = is_final; supertype = supertype })
  plain :
      (bytes : List ℕ) (c : CompAt) → IsCompType bytes c
      → IsSubType bytes (record { comp = c; is_final = true; supertype = None })

pub data IsRecType : List ℕ → GroupAt → Type 0 where
  rec :
      (bytes : List ℕ) (entries : List EntryAt) → IsVec IsSubType bytes entries
      → IsRecType (0x4E ∷ bytes) (group.Rec entries)
  single : (bytes : List ℕ) (entry : EntryAt) → IsSubType bytes entry
      → IsRecType bytes (group.Single entry)

-- what the type section has after its id and size
abbrev pub IsTypes : List ℕ → List GroupAt → Type 0
IsTypes = IsVec IsRecType
