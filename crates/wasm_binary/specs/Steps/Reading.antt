-- Reading from left to right: the first fault, or a value and the bytes after it.
use Rattle.std.specs.Prelude.{◌≡◌, ℕ, zero, suc, ◌+◌, ◌-◌, ◌*◌, ◌/◌, ◌^◌, Bool, true, false, List, [], ◌∷◌, length, Option, Some, None, Result, Ok, Err, nat_lt, nat_le, nat_eq, ◌&&◌, ◌||◌, cond}
use Rattle.walrus_ty.specs.declared.ty.value.AbstractHeapType.{AbstractHeapType}
use Rattle.walrus_ty.specs.declared.ty.value.AbstractHeapType.TheVariants as abstract
use Rattle.walrus_ty.specs.declared.ty.value.Heap.{Heap}
use Rattle.walrus_ty.specs.declared.ty.value.Heap.TheVariants as heap
use Rattle.walrus_ty.specs.declared.ty.value.Reference.{Reference}
use Rattle.walrus_ty.specs.declared.ty.value.Val.{Val}
use Rattle.walrus_ty.specs.declared.ty.value.Val.TheVariants as val
use Rattle.walrus_ty.specs.declared.ty.value.Storage.{Storage}
use Rattle.walrus_ty.specs.declared.ty.value.Storage.TheVariants as storage
use Rattle.walrus_ty.specs.declared.ty.value.Field.{Field}
use Rattle.walrus_ty.specs.declared.records.CompAt.{CompAt}
use Rattle.walrus_ty.specs.declared.records.CompAt.TheVariants as comp
use Rattle.walrus_ty.specs.declared.records.EntryAt.{EntryAt}
use Rattle.walrus_ty.specs.declared.records.GroupAt.{GroupAt}
use Rattle.walrus_ty.specs.declared.records.GroupAt.TheVariants as group
use Rattle.wasm_binary.specs.declared.error.Expected.{Expected}
use Rattle.wasm_binary.specs.declared.error.Expected.TheVariants as expected
use Rattle.wasm_binary.specs.declared.error.NotHeld.{NotHeld}
use Rattle.wasm_binary.specs.declared.error.NotHeld.TheVariants as held
use Rattle.wasm_binary.specs.declared.error.Reason.{Reason}
use Rattle.wasm_binary.specs.declared.error.Reason.TheVariants as reason
use Rattle.wasm_binary.specs.declared.error.Fault.{Fault}
use Rattle.wasm_binary.specs.declared.error.RawReadError.{RawReadError}
use Rattle.wasm_binary.specs.declared.error.RawReadError.TheVariants as errors
use Rattle.wasm_binary.specs.declared.decode.composite.Form.{Form}
use Rattle.wasm_binary.specs.declared.decode.composite.Form.TheVariants as form
use Rattle.wasm_binary.specs.declared.decode.group.Head.{Head}
use Rattle.wasm_binary.specs.Grammar.{reference}

infixl 10 ◌>>=◌
abbrev pub ◌>>=◌ : {A B : Type 0} → Result A Fault → (A → Result B Fault) → Result B Fault
(Ok value) >>= next = next value
(Err fault) >>= next = Err fault

abbrev pub expected_error : {A : Type 0} → List ℕ → Expected → Result A Fault
expected_error bytes what = Err (record { left = length bytes; reason = reason.Expected what })

-- The error, where so much is left of the input, is the fault that reading ends with, unless memory
-- was refused.
abbrev pub Fails : {Y : Type 0} → List ℕ → RawReadError → Result Y Fault → Type 0
Fails left errors.Memory read = Unit {0}
Fails left (errors.Reason why) read = read ≡ Err (record { left = length left; reason = why })

-- What a function returned, seen by view, and what it left of the input are what reading gives,
-- unless memory was refused.
abbrev pub Gives :
    {X Y : Type 0} → (X → Y) → Result X RawReadError → List ℕ → Result (Y × List ℕ) Fault → Type 0
Gives view (Ok value) left read = read ≡ Ok (view value, left)
Gives view (Err error) left read = Fails left error read

-- What a function returned says how reading goes on with what it left of the input.
abbrev pub Leads :
    {X Y : Type 0} → (X → List ℕ → Result (Y × List ℕ) Fault) → Result X RawReadError → List ℕ →
    Result (Y × List ℕ) Fault → Type 0
Leads on (Ok value) left read = read ≡ on value left
Leads on (Err error) left read = Fails left error read

-- `Gives` where reading says nothing of what is left
abbrev pub GivesAll :
    {X Y : Type 0} → (X → Y) → Result X RawReadError → List ℕ → Result Y Fault → Type 0
GivesAll view (Ok value) left read = read ≡ Ok (view value)
GivesAll view (Err error) left read = Fails left error read

-- reading an integer finds it, or has its one fault
abbrev pub Finds : Option ℕ → List ℕ → Result (ℕ × List ℕ) Fault → Type 0
Finds (Some number) left read = read ≡ Ok (number, left)
Finds None left read = read ≡ expected_error left expected.Integer

abbrev pub not_held_error : {A : Type 0} → List ℕ → NotHeld → Result A Fault
not_held_error bytes what = Err (record { left = length bytes; reason = reason.NotHeld what })

-- What is wrong is seen by the first byte that can't stand there. Only how many supertypes there
-- are is known behind it.
abbrev pub IsSeenAtOnce : Reason → Type 0
IsSeenAtOnce (reason.Expected what) = Unit {0}
IsSeenAtOnce (reason.NotHeld held.Supertypes) = ⊥
IsSeenAtOnce (reason.NotHeld held.Shared) = Unit {0}
IsSeenAtOnce (reason.NotHeld held.Continuation) = Unit {0}
IsSeenAtOnce (reason.NotHeld held.Descriptor) = Unit {0}

-- ---- integers; `b` is the first byte of a text, here and below

unfoldable pub integer_at : ℕ → ℕ → List ℕ → Result (ℕ × List ℕ) Fault
integer_at end limit [] = expected_error [] expected.Integer
integer_at end limit (b ∷ bytes) =
    cond (nat_lt b 0x80)
    (cond (nat_lt b end && nat_lt b limit) (Ok (b, bytes))
    (expected_error (b ∷ bytes) expected.Integer))
    (cond (nat_lt b 0x100 && nat_lt 0x80 limit)
    (integer_at end (limit / 0x80) bytes >>= (λ high. Ok (high.0 * 0x80 + (b - 0x80), high.1)))
    (expected_error (b ∷ bytes) expected.Integer))

abbrev pub u32_at : List ℕ → Result (ℕ × List ℕ) Fault
u32_at = integer_at 0x80 (2 ^ 32)

abbrev pub s33_at : List ℕ → Result (ℕ × List ℕ) Fault
s33_at = integer_at 0x40 (2 ^ 32)

-- ---- lists

-- each part is read by `item_at`
unfoldable pub items_at :
    {A : Type 0} → (List ℕ → Result (A × List ℕ) Fault) → ℕ → List ℕ →
    Result (List A × List ℕ) Fault
items_at item_at zero bytes = Ok ([], bytes)
items_at item_at (suc count) bytes =
    item_at bytes >>= (λ item. items_at item_at count item.1 >>= (λ items.
    Ok (item.0 ∷ items.0, items.1)))

unfoldable pub vec_at :
    {A : Type 0} → (List ℕ → Result (A × List ℕ) Fault) → List ℕ → Result (List A × List ℕ) Fault
vec_at item_at bytes = u32_at bytes >>= (λ count. items_at item_at count.0 count.1)

-- ---- heap types, reference types and value types

unfoldable pub heap_type_of : ℕ → Option AbstractHeapType
heap_type_of b =
    cond (nat_eq b 0x74) (Some abstract.NoExn)
    (cond (nat_eq b 0x73) (Some abstract.NoFunc)
    (cond (nat_eq b 0x72) (Some abstract.NoExtern)
    (cond (nat_eq b 0x71) (Some abstract.None)
    (cond (nat_eq b 0x70) (Some abstract.Func)
    (cond (nat_eq b 0x6F) (Some abstract.Extern)
    (cond (nat_eq b 0x6E) (Some abstract.Any)
    (cond (nat_eq b 0x6D) (Some abstract.Eq)
    (cond (nat_eq b 0x6C) (Some abstract.I31)
    (cond (nat_eq b 0x6B) (Some abstract.Struct)
    (cond (nat_eq b 0x6A) (Some abstract.Array)
    (cond (nat_eq b 0x69) (Some abstract.Exn) None)))))))))))

-- an index, or what is wrong with a first byte that stands for no abstract heap type
unfoldable pub index_at : ℕ → List ℕ → Result (Heap ℕ × List ℕ) Fault
index_at b bytes =
    cond (nat_lt b 0x40 || nat_le 0x80 b)
    (s33_at bytes >>= (λ index. Ok (heap.Concrete index.0, index.1)))
    (cond (nat_eq b 0x65) (not_held_error bytes held.Shared)
    (cond (nat_eq b 0x68 || nat_eq b 0x75) (not_held_error bytes held.Continuation)
    (expected_error bytes expected.HeapType)))

abbrev pub abstract_or : ℕ → List ℕ → Option AbstractHeapType → Result (Heap ℕ × List ℕ) Fault
abstract_or b bytes (Some name) = Ok (heap.Abstract name, bytes)
abstract_or b bytes None = index_at b (b ∷ bytes)

unfoldable pub heap_at : List ℕ → Result (Heap ℕ × List ℕ) Fault
heap_at [] = expected_error [] expected.HeapType
heap_at (b ∷ bytes) =
    cond (nat_eq b 0x62)
    (u32_at bytes >>= (λ index. Ok (heap.Exact index.0, index.1)))
    (abstract_or b bytes (heap_type_of b))

-- a reference type by its abbreviation, or what is wrong with its first byte
abbrev pub abbreviated_or :
    ℕ → List ℕ → Option AbstractHeapType → Result (Reference ℕ × List ℕ) Fault
abbreviated_or b bytes (Some name) = Ok (reference true (heap.Abstract name), bytes)
abbreviated_or b bytes None =
    cond (nat_eq b 0x65) (not_held_error (b ∷ bytes) held.Shared)
    (cond (nat_eq b 0x68 || nat_eq b 0x75) (not_held_error (b ∷ bytes) held.Continuation)
    (expected_error (b ∷ bytes) expected.ValType))

unfoldable pub reference_at : List ℕ → Result (Reference ℕ × List ℕ) Fault
reference_at [] = expected_error [] expected.ValType
reference_at (b ∷ bytes) =
    cond (nat_eq b 0x63) (heap_at bytes >>= (λ target. Ok (reference true target.0, target.1)))
    (cond (nat_eq b 0x64) (heap_at bytes >>= (λ target. Ok (reference false target.0, target.1)))
    (abbreviated_or b bytes (heap_type_of b)))

unfoldable pub val_at : List ℕ → Result (Val ℕ × List ℕ) Fault
val_at [] = expected_error [] expected.ValType
val_at (b ∷ bytes) =
    cond (nat_eq b 0x7F) (Ok (val.I32, bytes))
    (cond (nat_eq b 0x7E) (Ok (val.I64, bytes))
    (cond (nat_eq b 0x7D) (Ok (val.F32, bytes))
    (cond (nat_eq b 0x7C) (Ok (val.F64, bytes))
    (cond (nat_eq b 0x7B) (Ok (val.V128, bytes))
    (reference_at (b ∷ bytes) >>= (λ ref. Ok (val.Ref ref.0, ref.1)))))))

-- ---- fields and composite types

unfoldable pub storage_at : List ℕ → Result (Storage ℕ × List ℕ) Fault
storage_at [] = expected_error [] expected.StorageType
storage_at (b ∷ bytes) =
    cond (nat_eq b 0x78) (Ok (storage.I8, bytes))
    (cond (nat_eq b 0x77) (Ok (storage.I16, bytes))
    (val_at (b ∷ bytes) >>= (λ ty. Ok (storage.Val ty.0, ty.1))))

unfoldable pub mutability_at : List ℕ → Result (Bool × List ℕ) Fault
mutability_at [] = expected_error [] expected.Mutability
mutability_at (b ∷ bytes) =
    cond (nat_eq b 0x00) (Ok (false, bytes))
    (cond (nat_eq b 0x01) (Ok (true, bytes)) (expected_error (b ∷ bytes) expected.Mutability))

unfoldable pub field_at : List ℕ → Result (Field ℕ × List ℕ) Fault
field_at bytes =
    storage_at bytes >>= (λ ty. mutability_at ty.1 >>= (λ mutable.
    Ok (record { element_type = ty.0; mutable = mutable.0 }, mutable.1)))

unfoldable pub function_at : List ℕ → Result (CompAt × List ℕ) Fault
function_at bytes =
    vec_at val_at bytes >>= (λ params. vec_at val_at params.1 >>= (λ results.
    Ok (comp.Function params.0 results.0, results.1)))

abbrev pub struct_at : List ℕ → Result (CompAt × List ℕ) Fault
struct_at bytes = vec_at field_at bytes >>= (λ fields. Ok (comp.Struct fields.0, fields.1))

abbrev pub array_at : List ℕ → Result (CompAt × List ℕ) Fault
array_at bytes = field_at bytes >>= (λ field. Ok (comp.Array field.0, field.1))

-- what stands behind the first byte
abbrev pub comp_behind : Form → List ℕ → Result (CompAt × List ℕ) Fault
comp_behind form.Function bytes = function_at bytes
comp_behind form.Struct bytes = struct_at bytes
comp_behind form.Array bytes = array_at bytes

unfoldable pub comp_at : List ℕ → Result (CompAt × List ℕ) Fault
comp_at [] = expected_error [] expected.CompType
comp_at (b ∷ bytes) =
    cond (nat_eq b 0x60) (function_at bytes)
    (cond (nat_eq b 0x5F) (struct_at bytes)
    (cond (nat_eq b 0x5E) (array_at bytes)
    (cond (nat_eq b 0x5D) (not_held_error (b ∷ bytes) held.Continuation)
    (cond (nat_eq b 0x65) (not_held_error (b ∷ bytes) held.Shared)
    (cond (nat_eq b 0x4C || nat_eq b 0x4D) (not_held_error (b ∷ bytes) held.Descriptor)
    (expected_error (b ∷ bytes) expected.CompType))))))

-- ---- definitions and groups

-- the one supertype, if there is one
unfoldable pub supertype_at : List ℕ → Result (Option ℕ × List ℕ) Fault
supertype_at bytes =
    u32_at bytes >>= (λ count.
    cond (nat_eq count.0 0) (Ok (None, count.1))
    (cond (nat_eq count.0 1) (u32_at count.1 >>= (λ index. Ok (Some index.0, index.1)))
    (not_held_error bytes held.Supertypes)))

-- what reading a composite type gives, as a definition of it
abbrev pub as_entry :
    Bool → Option ℕ → Result (CompAt × List ℕ) Fault → Result (EntryAt × List ℕ) Fault
as_entry is_final supertype read =
    read >>= (λ ty. Ok (record { comp = ty.0; is_final = is_final; supertype = supertype }, ty.1))

-- a definition by its head and its type
abbrev pub entry_of : Head → CompAt → EntryAt
entry_of head ty = record { comp = ty; is_final = head.is_final; supertype = head.supertype }

-- what stands behind the head
abbrev pub entry_behind : Head → List ℕ → Result (EntryAt × List ℕ) Fault
entry_behind head bytes = as_entry head.is_final head.supertype (comp_behind head.form bytes)

unfoldable pub declared_at : Bool → List ℕ → Result (EntryAt × List ℕ) Fault
declared_at is_final bytes =
    supertype_at bytes >>= (λ supertype. as_entry is_final supertype.0 (comp_at supertype.1))

unfoldable pub entry_at : List ℕ → Result (EntryAt × List ℕ) Fault
entry_at [] = expected_error [] expected.RecType
entry_at (b ∷ bytes) =
    cond (nat_eq b 0x50) (declared_at false bytes)
    (cond (nat_eq b 0x4F) (declared_at true bytes)
    (as_entry true None (comp_at (b ∷ bytes))))

abbrev pub rec_at : List ℕ → Result (GroupAt × List ℕ) Fault
rec_at bytes = vec_at entry_at bytes >>= (λ entries. Ok (group.Rec entries.0, entries.1))

abbrev pub single_at : List ℕ → Result (GroupAt × List ℕ) Fault
single_at bytes = entry_at bytes >>= (λ entry. Ok (group.Single entry.0, entry.1))

unfoldable pub group_at : List ℕ → Result (GroupAt × List ℕ) Fault
group_at [] = expected_error [] expected.RecType
group_at (b ∷ bytes) =
    cond (nat_eq b 0x4E) (rec_at bytes) (single_at (b ∷ bytes))

-- all of the bytes
unfoldable pub types_at : List ℕ → Result (List GroupAt) Fault
types_at bytes =
    vec_at group_at bytes >>= (λ groups.
    cond (nat_eq (length groups.1) 0) (Ok groups.0) (expected_error groups.1 expected.End))
