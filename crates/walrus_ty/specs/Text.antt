-- The text of types, in the words of the WebAssembly text format, with a type of the module written
-- as the number of its id.
-- WebAssembly core specification, "Text Format", "Types". `exact` stands as in walrus, without the
-- brackets of the custom descriptors proposal.
use Rattle.std.specs.Prelude.{ℕ, ◌<◌, ◌^◌, List, [], ◌∷◌, ◌++◌, codes, decimal, if◌then◌else◌}
use Rattle.std.specs.List.{flat_map, AllByRecursion}
use Rattle.walrus_ty.specs.Value.{val_names}
use Rattle.walrus_ty.specs.declared.ty.value.AbstractHeapType.{AbstractHeapType}
use Rattle.walrus_ty.specs.declared.ty.value.AbstractHeapType.TheVariants as abstract
use Rattle.walrus_ty.specs.declared.ty.value.Heap.{Heap}
use Rattle.walrus_ty.specs.declared.ty.value.Heap.TheVariants as heap
use Rattle.walrus_ty.specs.declared.ty.value.Reference.{Reference}
use Rattle.walrus_ty.specs.declared.ty.value.Val.{Val}
use Rattle.walrus_ty.specs.declared.ty.value.Val.TheVariants as val
use Rattle.walrus_ty.specs.declared.ty.value.Storage.{Storage}
use Rattle.walrus_ty.specs.declared.ty.value.Storage.TheVariants as storage
use Rattle.walrus_ty.specs.declared.ty.value.Field.{Field}
use Rattle.walrus_ty.specs.Definition.{Composite, Function, Struct, Array}

abbrev pub abstract_text : AbstractHeapType → List ℕ
abstract_text abstract.Func = codes "func"
abstract_text abstract.Extern = codes "extern"
abstract_text abstract.Any = codes "any"
abstract_text abstract.None = codes "none"
abstract_text abstract.NoExtern = codes "noextern"
abstract_text abstract.NoFunc = codes "nofunc"
abstract_text abstract.Eq = codes "eq"
abstract_text abstract.Struct = codes "struct"
abstract_text abstract.Array = codes "array"
abstract_text abstract.I31 = codes "i31"
abstract_text abstract.Exn = codes "exn"
abstract_text abstract.NoExn = codes "noexn"

abbrev pub heap_text : Heap ℕ → List ℕ
heap_text (heap.Abstract a) = abstract_text a
heap_text (heap.Concrete k) = decimal k
heap_text (heap.Exact k) = codes "exact " ++ decimal k

-- a nullable reference to an abstract heap type has a name of its own
abbrev pub nullable_text : Heap ℕ → List ℕ
nullable_text (heap.Abstract abstract.Func) = codes "funcref"
nullable_text (heap.Abstract abstract.Extern) = codes "externref"
nullable_text (heap.Abstract abstract.Any) = codes "anyref"
nullable_text (heap.Abstract abstract.None) = codes "nullref"
nullable_text (heap.Abstract abstract.NoExtern) = codes "nullexternref"
nullable_text (heap.Abstract abstract.NoFunc) = codes "nullfuncref"
nullable_text (heap.Abstract abstract.Eq) = codes "eqref"
nullable_text (heap.Abstract abstract.Struct) = codes "structref"
nullable_text (heap.Abstract abstract.Array) = codes "arrayref"
nullable_text (heap.Abstract abstract.I31) = codes "i31ref"
nullable_text (heap.Abstract abstract.Exn) = codes "exnref"
nullable_text (heap.Abstract abstract.NoExn) = codes "nullexnref"
nullable_text (heap.Concrete k) = codes "(ref null " ++ (decimal k ++ codes ")")
nullable_text (heap.Exact k) = codes "(ref null exact " ++ (decimal k ++ codes ")")

abbrev pub reference_text : Reference ℕ → List ℕ
reference_text r =
    if r.nullable then nullable_text r.heap_type
    else codes "(ref " ++ (heap_text r.heap_type ++ codes ")")

abbrev pub val_text : Val ℕ → List ℕ
val_text val.I32 = codes "i32"
val_text val.I64 = codes "i64"
val_text val.F32 = codes "f32"
val_text val.F64 = codes "f64"
val_text val.V128 = codes "v128"
val_text (val.Ref r) = reference_text r

abbrev pub storage_text : Storage ℕ → List ℕ
storage_text (storage.Val v) = val_text v
storage_text storage.I8 = codes "i8"
storage_text storage.I16 = codes "i16"

abbrev pub field_text : Field ℕ → List ℕ
field_text f =
    if f.mutable then codes "(mut " ++ (storage_text f.element_type ++ codes ")")
    else storage_text f.element_type

-- each value type with a space before it
abbrev pub vals_text : List (Val ℕ) → List ℕ
vals_text vs = flat_map (λ v. codes " " ++ val_text v) vs

-- the parameters or the results, of which this word tells, left out where there are none
abbrev pub part_text : List ℕ → List (Val ℕ) → List ℕ
part_text word [] = []
part_text word (v ∷ vs) = codes " (" ++ (word ++ (vals_text (v ∷ vs) ++ codes ")"))

abbrev pub fields_text : List (Field ℕ) → List ℕ
fields_text fs = flat_map (λ f. codes " (field " ++ (field_text f ++ codes ")")) fs

abbrev pub function_text : List (Val ℕ) → List (Val ℕ) → List ℕ
function_text params results =
    codes "(func" ++ (part_text (codes "param") params ++
    (part_text (codes "result") results ++ codes ")"))

abbrev pub struct_text : List (Field ℕ) → List ℕ
struct_text fields = codes "(struct" ++ (fields_text fields ++ codes ")")

abbrev pub array_text : Field ℕ → List ℕ
array_text field = codes "(array " ++ (field_text field ++ codes ")")

abbrev pub composite_text : Composite → List ℕ
composite_text (Function params results) = function_text params results
composite_text (Struct fields) = struct_text fields
composite_text (Array field) = array_text field

-- each id that it names is a place: an id is a `usize`
abbrev pub HasPlaces : Val ℕ → Type 0
HasPlaces v = AllByRecursion (λ k. k < 2 ^ 64) (val_names v)
