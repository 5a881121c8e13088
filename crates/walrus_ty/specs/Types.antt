-- What contracts see of the types of a module.
-- WebAssembly core specification, "Types": composite types and sub types. The id, the name and the
-- mark of a function entry are no part of a type there.
use Rattle.std.specs.Prelude.{ℕ, Bool, List, Option, Some, None}
use Rattle.std.specs.declared.string.String.{String}
use Rattle.std.specs.declared.alloc.Global.{Global}
use Rattle.walrus_ty.specs.declared.ty.value.Val.{Val}
use Rattle.walrus_ty.specs.declared.ty.composite.CompositeType.{CompositeType}
use Rattle.walrus_ty.specs.declared.ty.composite.CompositeType.TheVariants as kind
use Rattle.walrus_ty.specs.Signature.{Signature}
use Rattle.walrus_ty.specs.Definition.{Composite, Function, Struct, Array, Definition}

-- a type of a module
pub record ModuleType : Type 0 where
  pub kind : CompositeType
  pub is_final : Bool
  pub supertype : Option ℕ
  pub is_for_function_entry : Bool
  pub id : ℕ
  pub name : Option (String Global)

abbrev pub kind_composite : CompositeType → Composite
kind_composite (kind.Function f) = Function f.params f.results
kind_composite (kind.Struct s) = Struct s.fields
kind_composite (kind.Array a) = Array a.field

-- what the type is defined to be, over the ids of types
abbrev pub type_definition : ModuleType → Definition
type_definition t =
    record { composite = kind_composite t.kind; is_final = t.is_final; supertype = t.supertype }

-- a type without a name
abbrev pub unnamed_type : CompositeType → Bool → Option ℕ → Bool → ℕ → ModuleType
unnamed_type kind is_final supertype is_for_function_entry id = record {
  kind = kind;
  is_final = is_final;
  supertype = supertype;
  is_for_function_entry = is_for_function_entry;
  id = id;
  name = None;
}

abbrev pub function : List (Val ℕ) → List (Val ℕ) → CompositeType
function params results = kind.Function (record { params = params; results = results })

-- its parameters and results, if it is a function type
abbrev pub signature_of : CompositeType → Option Signature
signature_of (kind.Function f) = Some f
signature_of (kind.Struct s) = None
signature_of (kind.Array a) = None

-- the type made of this instead
abbrev pub with_kind : ModuleType → CompositeType → ModuleType
with_kind t kind = record t { kind = kind }
