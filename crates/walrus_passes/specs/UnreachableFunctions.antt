-- A new function whose body is a single `unreachable`.
-- WebAssembly core specification, "Functions"; "Control Instructions", `unreachable`. That such a
-- function is made is of this crate's own.
use Rattle.std.specs.Prelude.{◌≡◌, ℕ, List}
use Rattle.walrus_ty.specs.declared.ty.value.Val.{Val}
use Rattle.walrus_types.specs.Table.{Table, FindsOrAdds}
use Rattle.ir_instr.specs.declared.instr_seq_type.InstrSeqType.TheVariants.{MultiValue}
use Rattle.walrus_functions.specs.Beginning.{new_entry_type}
use Rattle.walrus_functions.specs.FunctionWithArgs.{FunctionWithArgs}
use Rattle.walrus_passes.specs.SnippedFunctions.{unreachable_body}

-- the type that stands for a body with these results was found or added, and the function has that
-- as the type of its entry, in which there is one `unreachable`
pub record IsUnreachable (old new : Table) (ty : ℕ) (results : List (Val ℕ))
    (func : FunctionWithArgs) : Type 0 where
  pub entry_ty : ℕ
  pub entry : FindsOrAdds old new (new_entry_type old results) entry_ty
  pub body : func.body ≡ unreachable_body ty (MultiValue entry_ty)
