-- Which types a function uses.
-- WebAssembly core specification, "Functions", and "Instructions", where a type is behind an
-- instruction: by its index, as a heap type, or in a value type.
use Rattle.std.specs.Prelude.{◌≡◌, ℕ, List, [], ◌∷◌, ◌++◌, Option, Some, None, Contains, slice_get, option_map}
use Rattle.walrus_ty.specs.declared.ty.value.Val.{Val}
use Rattle.walrus_ty.specs.Value.{heap_names, reference_names, val_names}
use Rattle.std.specs.List.{flat_map}
use Rattle.ir_instr.specs.BlockTypes.{block_type_name}
use Rattle.walrus_ir.specs.Calls.{Event, at, reported}
use Rattle.walrus_ir.specs.Fields.{fields}
use Rattle.walrus_ir.specs.Hooks.{visit_type_id, visit_heap_type, visit_local_id}
use Rattle.ir_instr.specs.Locals.{LocalVariable}
use Rattle.ir_instr.specs.declared.instr.Instr.{Instr}
use Rattle.ir_instr.specs.declared.instr.Instr.TheVariants as instr
use Rattle.walrus_functions.specs.Body.{Body, sequence, instrs_of}
use Rattle.walrus_functions.specs.FunctionWithArgs.{FunctionWithArgs}
use Rattle.walrus_functions.specs.Nesting.{IsNested, IsReachable}

-- the body is nested from its entry, if it has one
abbrev pub HasNestedBody : Body → Type 0
HasNestedBody f = (start : ℕ) → f.entry ≡ Some start → IsNested f start

-- the sequence is reached from the entry
abbrev pub IsInBody : Body → ℕ → Type 0
IsInBody f id = (start : ℕ) × (f.entry ≡ Some start) × IsReachable f start id

-- the types that a value type names, if there is one
abbrev pub types_of : Option (Val ℕ) → List ℕ
types_of None = []
types_of (Some v) = val_names v

-- the types that the type of a local names; an unknown local has none
abbrev pub local_types : List LocalVariable → ℕ → List ℕ
local_types locals id = types_of (option_map (λ l. l.ty) (slice_get locals id))

-- the types that a field which walks visit names: its own, or that of a local
abbrev pub field_types : List LocalVariable → Event → List ℕ
field_types locals (at visit_type_id id) = id ∷ []
field_types locals (at visit_heap_type heap) = heap_names heap
field_types locals (at visit_local_id id) = local_types locals id
field_types locals (at _ _) = []

-- the types that an instruction names where walks do not look
abbrev pub unvisited_types : Instr → List ℕ
unvisited_types (instr.Select x) = types_of x.ty
unvisited_types (instr.RefNull x) = reference_names x.ty
unvisited_types _ = []

-- the types that an instruction names, and that of the local that it reads or writes
abbrev pub instr_types : List LocalVariable → Instr → List ℕ
instr_types locals i = flat_map (field_types locals) (reported (fields i)) ++ unvisited_types i

-- a function uses its own type, the types of its parameters, and in its body the types that blocks
-- have and those of instructions
pub data UsesType (locals : List LocalVariable) (func : FunctionWithArgs) (id : ℕ) : Type 0 where
  own : func.body.ty ≡ id → UsesType locals func id
  parameter : (local : ℕ) →
      Contains func.args local → Contains (local_types locals local) id → UsesType locals func id
  block : (seq : ℕ) →
      IsInBody func.body seq → block_type_name (sequence func.body seq).ty ≡ Some id →
      UsesType locals func id
  instruction : (seq : ℕ) (item : Instr × ℕ) →
      IsInBody func.body seq → Contains (instrs_of func.body seq) item →
      Contains (instr_types locals item.0) id → UsesType locals func id
