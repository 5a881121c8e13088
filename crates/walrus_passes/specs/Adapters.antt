-- A function that calls another one of its type with its own parameters.
-- WebAssembly core specification, "Functions"; "Variable Instructions" and "Control Instructions",
-- `local.get` and `call`. That such a function is made is of this crate's own.
use Rattle.std.specs.Prelude.{◌≡◌, ℕ, List, [], ◌∷◌, ◌++◌, length, map, Some, None, ◌⊎◌}
use Rattle.walrus_ty.specs.declared.ty.value.Val.{Val}
use Rattle.walrus_types.specs.Table.{Table, FindsOrAdds, IsSameTable}
use Rattle.ir_instr.specs.Locals.{LocalVariable, unnamed_locals}
use Rattle.ir_instr.specs.Locations.{no_location}
use Rattle.ir_instr.specs.declared.instr_seq_type.InstrSeqType.TheVariants.{MultiValue}
use Rattle.ir_instr.specs.declared.instr.Instr.{Instr}
use Rattle.ir_instr.specs.declared.instr.Instr.TheVariants.{LocalGet, Call}
use Rattle.walrus_functions.specs.Beginning.{new_entry_type}
use Rattle.walrus_functions.specs.Body.{Body}
use Rattle.walrus_functions.specs.FunctionWithArgs.{FunctionWithArgs}

abbrev pub get_of : ℕ → Instr × ℕ
get_of local = (LocalGet (record { local = local }), no_location)

-- the values of these locals in order, and then the call that takes them
abbrev pub call_with : List ℕ → ℕ → List (Instr × ℕ)
call_with args func = map get_of args ++ (Call (record { func = func }), no_location) ∷ []

-- a function of type `ty` whose one sequence does that
abbrev pub adapter_body : ℕ → ℕ → List ℕ → ℕ → Body
adapter_body ty entry_ty args func = record {
  seqs = record {
    id = 0;
    ty = MultiValue entry_ty;
    instrs = call_with args func;
    end = no_location;
  } ∷ [];
  entry = Some 0;
  ty = ty;
  name = None;
}

-- the type that stands for a body with these results was found or added, and the adapter has that
-- as the type of its entry, in which it calls the function with its own parameters
pub record Calls (old new : Table) (func ty : ℕ) (results : List (Val ℕ))
    (adapter : FunctionWithArgs) : Type 0 where
  pub entry_ty : ℕ
  pub entry : FindsOrAdds old new (new_entry_type old results) entry_ty
  pub body : adapter.body ≡ adapter_body ty entry_ty adapter.args func

-- the table is as it was, or the type that stands for a body with these results was found or added
abbrev pub AddsEntryOrNone : Table → Table → List (Val ℕ) → Type 0
AddsEntryOrNone old new results =
    IsSameTable old new
    ⊎ ((entry_ty : ℕ) × FindsOrAdds old new (new_entry_type old results) entry_ty)

-- there are no new locals, or one for each of these types
abbrev pub AddsLocalsOrNone : List LocalVariable → List LocalVariable → List (Val ℕ) → Type 0
AddsLocalsOrNone old new types =
    (new ≡ old) ⊎ (new ≡ old ++ unnamed_locals (length old) types)
