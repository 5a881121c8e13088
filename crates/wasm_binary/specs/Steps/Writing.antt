-- The shortest texts.
use Rattle.std.specs.Prelude.{ℕ, ◌<◌, ◌≤◌, zero, suc, ◌+◌, ◌/◌, ◌%◌, Bool, List, [], ◌∷◌, ◌++◌, length, Option, Some, None, nat_lt, cond}
use Rattle.std.specs.List.{flat_map}
use Rattle.walrus_ty.specs.declared.ty.value.Heap.{Heap}
use Rattle.walrus_ty.specs.declared.ty.value.Heap.TheVariants as heap
use Rattle.walrus_ty.specs.declared.ty.value.Reference.{Reference}
use Rattle.walrus_ty.specs.declared.ty.value.Val.{Val}
use Rattle.walrus_ty.specs.declared.ty.value.Val.TheVariants as val
use Rattle.walrus_ty.specs.declared.ty.value.Storage.{Storage}
use Rattle.walrus_ty.specs.declared.ty.value.Storage.TheVariants as storage
use Rattle.walrus_ty.specs.declared.ty.value.Field.{Field}
use Rattle.walrus_ty.specs.declared.records.CompAt.{CompAt}
use Rattle.walrus_ty.specs.declared.records.CompAt.TheVariants as comp
use Rattle.walrus_ty.specs.declared.records.EntryAt.{EntryAt}
use Rattle.walrus_ty.specs.declared.records.GroupAt.{GroupAt}
use Rattle.walrus_ty.specs.declared.records.GroupAt.TheVariants as group
use Rattle.wasm_binary.specs.Grammar.{heap_code, mutability_code, sub_code}

-- an integer whose last byte is below `end`, and which has so many bytes before the last at most
unfoldable pub integer_text : ℕ → ℕ → ℕ → List ℕ
integer_text zero end n = n ∷ []
integer_text (suc more) end n =
    cond (nat_lt n end) (n ∷ []) ((n % 0x80 + 0x80) ∷ integer_text more end (n / 0x80))

-- as many bytes before the last are enough
abbrev pub IsEnough : ℕ → ℕ → ℕ → Type 0
IsEnough zero end n = n < end
IsEnough (suc more) end n = end ≤ n → IsEnough more end (n / 0x80)

abbrev pub u32_text : ℕ → List ℕ
u32_text n = integer_text 4 0x80 n

abbrev pub s33_text : ℕ → List ℕ
s33_text n = integer_text 4 0x40 n

abbrev pub vec_text : {A : Type 0} → (A → List ℕ) → List A → List ℕ
vec_text text items = u32_text (length items) ++ flat_map text items

abbrev pub heap_text : Heap ℕ → List ℕ
heap_text (heap.Abstract a) = heap_code a ∷ []
heap_text (heap.Concrete k) = s33_text k
heap_text (heap.Exact k) = 0x62 ∷ u32_text k

abbrev pub nullable_text : Heap ℕ → List ℕ
nullable_text (heap.Abstract a) = heap_code a ∷ []
nullable_text (heap.Concrete k) = 0x63 ∷ s33_text k
nullable_text (heap.Exact k) = 0x63 ∷ 0x62 ∷ u32_text k

abbrev pub reference_text : Reference ℕ → List ℕ
reference_text r = cond r.nullable (nullable_text r.heap_type) (0x64 ∷ heap_text r.heap_type)

abbrev pub val_text : Val ℕ → List ℕ
val_text val.I32 = 0x7F ∷ []
val_text val.I64 = 0x7E ∷ []
val_text val.F32 = 0x7D ∷ []
val_text val.F64 = 0x7C ∷ []
val_text val.V128 = 0x7B ∷ []
val_text (val.Ref r) = reference_text r

abbrev pub storage_text : Storage ℕ → List ℕ
storage_text storage.I8 = 0x78 ∷ []
storage_text storage.I16 = 0x77 ∷ []
storage_text (storage.Val v) = val_text v

abbrev pub field_text : Field ℕ → List ℕ
field_text f = storage_text f.element_type ++ mutability_code f.mutable ∷ []

abbrev pub comp_text : CompAt → List ℕ
comp_text (comp.Array f) = 0x5E ∷ field_text f
comp_text (comp.Struct fs) = 0x5F ∷ vec_text field_text fs
comp_text (comp.Function ps rs) = 0x60 ∷ (vec_text val_text ps ++ vec_text val_text rs)

abbrev pub supertype_text : Option ℕ → List ℕ
supertype_text None = 0 ∷ []
supertype_text (Some k) = 1 ∷ u32_text k

abbrev pub declared_text : Bool → Option ℕ → CompAt → List ℕ
declared_text is_final s c = sub_code is_final ∷ (supertype_text s ++ comp_text c)

abbrev pub with_supertype : Bool → Option ℕ → CompAt → List ℕ
with_supertype is_final (Some k) c = declared_text is_final (Some k) c
with_supertype is_final None c = cond is_final (comp_text c) (declared_text is_final None c)

abbrev pub entry_text : EntryAt → List ℕ
entry_text e = with_supertype e.is_final e.supertype e.comp

abbrev pub group_text : GroupAt → List ℕ
group_text (group.Single e) = entry_text e
group_text (group.Rec es) = 0x4E ∷ vec_text entry_text es
