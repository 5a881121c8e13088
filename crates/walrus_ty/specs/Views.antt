-- Types seen by their kind, and the ids that a type is made with.
-- WebAssembly core specification, "Types": composite types.
use Rattle.std.specs.List.{list_any}
use Rattle.std.specs.Prelude.{ℕ, true, nat_eq, Bool, List, ◌++◌, Option, Some, None}
use Rattle.walrus_ty.specs.declared.ty.value.AbstractHeapType.{AbstractHeapType}
use Rattle.walrus_ty.specs.declared.ty.value.AbstractHeapType.TheVariants as abstract
use Rattle.walrus_ty.specs.declared.ty.value.Heap.TheVariants as heap
use Rattle.walrus_ty.specs.declared.ty.value.Reference.{Reference}
use Rattle.walrus_ty.specs.declared.ty.composite.CompositeType.{CompositeType}
use Rattle.walrus_ty.specs.declared.ty.composite.CompositeType.TheVariants as kind
use Rattle.walrus_ty.specs.declared.ty.composite.StructType.{StructType}
use Rattle.walrus_ty.specs.declared.ty.composite.ArrayType.{ArrayType}
use Rattle.walrus_ty.specs.Definition.{composite_names, supertype_names, names_of}
use Rattle.walrus_ty.specs.Types.{ModuleType, kind_composite, type_definition}

-- the struct type that it is
abbrev pub struct_of : CompositeType → Option StructType
struct_of (kind.Function f) = None
struct_of (kind.Struct s) = Some s
struct_of (kind.Array a) = None

-- the array type that it is
abbrev pub array_of : CompositeType → Option ArrayType
array_of (kind.Function f) = None
array_of (kind.Struct s) = None
array_of (kind.Array a) = Some a

-- the ids that the type is made with: its supertype, then the others from left to right, each as
-- often as it is named
abbrev pub referenced_ids : ModuleType → List ℕ
referenced_ids t = supertype_names t.supertype ++ composite_names (kind_composite t.kind)

-- the nullable reference to what no module defines
abbrev pub nullable_abstract : AbstractHeapType → Reference ℕ
nullable_abstract a = record { nullable = true; heap_type = heap.Abstract a }

-- what the constant for such references is; there is none for `NoExn`
abbrev pub constant_of : AbstractHeapType → Option (Reference ℕ)
constant_of abstract.NoExn = None
constant_of a = Some (nullable_abstract a)

-- whether the definition of the type names the id
abbrev pub names : ModuleType → ℕ → Bool
names ty id = list_any (nat_eq id) (names_of (type_definition ty))
