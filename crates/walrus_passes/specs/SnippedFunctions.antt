-- What is left of a function whose body is replaced.
-- WebAssembly core specification, "Functions"; "Control Instructions", `unreachable`. That a body
-- is replaced is of this crate's own.
use Rattle.std.specs.Prelude.{◌≡◌, ℕ, List, [], ◌∷◌, Option, Some, None, IsSomeAnd}
use Rattle.ir_instr.specs.Locations.{no_location}
use Rattle.ir_instr.specs.declared.instr_seq_type.InstrSeqType.{InstrSeqType}
use Rattle.ir_instr.specs.declared.instr_seq_type.InstrSeqType.TheVariants.{Simple}
use Rattle.ir_instr.specs.declared.instr.Instr.TheVariants.{Unreachable}
use Rattle.walrus_functions.specs.Body.{Body, sequence}
use Rattle.walrus_functions.specs.Functions.{Functions, function_at, with_function}
use Rattle.walrus_functions.specs.FunctionWithArgs.{FunctionWithArgs}

-- the name, or else the other one
abbrev pub name_or : Option (List ℕ) → Option (List ℕ) → Option (List ℕ)
name_or None other = other
name_or (Some name) other = Some name

-- the function with this body: it keeps its parameters, and its name if it has one
abbrev pub with_body : Body → FunctionWithArgs → FunctionWithArgs
with_body body func =
    record { body = record body { name = name_or func.body.name body.name }; args = func.args }

abbrev pub type_of_entry : Body → Option ℕ → InstrSeqType
type_of_entry f None = Simple None
type_of_entry f (Some id) = (sequence f id).ty

-- the body that is a single `unreachable`, of a function of type `ty`; its sequence is of the type
-- `entry_ty`, and it has no name
abbrev pub unreachable_body : ℕ → InstrSeqType → Body
unreachable_body ty entry_ty = record {
  seqs = record {
    id = 0;
    ty = entry_ty;
    instrs = (Unreachable (record {}), no_location) ∷ [];
    end = no_location;
  } ∷ [];
  entry = Some 0;
  ty = ty;
  name = None;
}

-- the function whose body is a single `unreachable`
abbrev pub unreachable_function : FunctionWithArgs → FunctionWithArgs
unreachable_function func =
    with_body (unreachable_body func.body.ty (type_of_entry func.body func.body.entry)) func

-- the function of the id is what `change` makes of it, and all others are as they were
abbrev pub Changes :
    Functions → Functions → ℕ → (FunctionWithArgs → FunctionWithArgs) → Type 0
Changes old new id change =
    IsSomeAnd (function_at old id) (λ f. new ≡ with_function old id (change f))
