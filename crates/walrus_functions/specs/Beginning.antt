-- A new function: what is added to the table of types, and what the function is.
use Rattle.std.specs.Prelude.{◌≡◌, ℕ, List, [], ◌∷◌, ◌⊎◌, Some, None, true}
use Rattle.walrus_ty.specs.declared.ty.value.Val.{Val}
use Rattle.walrus_ty.specs.Types.{ModuleType, unnamed_type, function}
use Rattle.walrus_types.specs.Table.{Table, next_id, FindsOrAdds, HoldsAlone, IsSameTable}
use Rattle.walrus_types.specs.FunctionTypes.{new_function}
use Rattle.ir_instr.specs.Sequence.{empty_sequence}
use Rattle.ir_instr.specs.declared.instr_seq_type.InstrSeqType.TheVariants.{MultiValue}
use Rattle.walrus_functions.specs.Body.{Body}

-- the type that stands for a function body with these results, as it is added to the table
abbrev pub new_entry_type : Table → List (Val ℕ) → ModuleType
new_entry_type t results = unnamed_type (function [] results) true None true (next_id t)

-- a function of type `ty` with the entry sequence alone, which has the type `entry_ty` and no
-- instructions
abbrev pub begun : ℕ → ℕ → Body
begun ty entry_ty = record {
  seqs = empty_sequence 0 (MultiValue entry_ty) ∷ [];
  entry = Some 0;
  ty = ty;
  name = None;
}

-- the function type was found or added, then the type of the body, and the function has an entry
-- sequence of that type; in the table as it is afterwards both ids hold their types
pub record Begins (old : Table) (params results : List (Val ℕ)) (f : Body) (new : Table)
    : Type 0 where
  pub between : Table
  pub entry_ty : ℕ
  pub ty : FindsOrAdds old between (new_function old params results) f.ty
  pub ty_holds : HoldsAlone new (new_function old params results) f.ty
  pub entry : FindsOrAdds between new (new_entry_type between results) entry_ty
  pub entry_holds : HoldsAlone new (new_entry_type between results) entry_ty
  pub body : f ≡ begun f.ty entry_ty

-- the table is as it was, or the function type was found or added, or both types were
abbrev pub FailsToBegin : Table → List (Val ℕ) → List (Val ℕ) → Table → Type 0
FailsToBegin old params results new =
    IsSameTable old new
    ⊎ ((between : Table) × (ty : ℕ) × FindsOrAdds old between (new_function old params results) ty
    × (IsSameTable between new
    ⊎ ((entry_ty : ℕ) × FindsOrAdds between new (new_entry_type between results) entry_ty)))
