-- Constant expressions: what their operations name, how these are read and written, and the forms
-- of expressions.
-- WebAssembly core specification, "Instructions": constant expressions.
use Rattle.std.specs.List.{flat_map}
use Rattle.std.specs.Prelude.{ℕ, List, [], ◌∷◌, map, find, is_none, Option, Some, None, true, unwrap_or, slice_get}
use Rattle.walrus_ty.specs.declared.error.NoIndex.{NoIndex}
use Rattle.walrus_ty.specs.declared.error.NoIndex.TheVariants.{OfType, OfFunc, OfGlobal}
use Rattle.walrus_ty.specs.declared.indices.ids_to_indices.IdsToIndices.{IdsToIndices}
use Rattle.walrus_ty.specs.declared.ty.value.Heap.{Heap}
use Rattle.walrus_ty.specs.declared.ty.value.Reference.{Reference}
use Rattle.walrus_ty.specs.IdLists.{IdLists}
use Rattle.walrus_ty.specs.Indices.{type_indices, func_indices, global_indices}
use Rattle.walrus_ty.specs.Lookups.{value_or_zero}
use Rattle.walrus_ty.specs.Value.{heap_names, rename_heap}
use Rattle.ir_operators.specs.declared.value.Value.{Value}
use Rattle.ir_operators.specs.declared.value.Value.TheVariants as value
use Rattle.ir_const_expr.specs.declared.const_expr.ConstExpr.{ConstExpr}
use Rattle.ir_const_expr.specs.declared.const_expr.ConstExpr.TheVariants as expr
use Rattle.ir_const_expr.specs.declared.const_expr.ConstOp.{ConstOp}
use Rattle.ir_const_expr.specs.declared.const_expr.ConstOp.TheVariants as op
use Rattle.ir_const_expr.specs.declared.const_expr.ConstOpAt.{ConstOpAt}
use Rattle.ir_const_expr.specs.declared.const_expr.ConstOpAt.TheVariants as at

-- what an operation names: types, functions and globals are numbered apart
pub data Name : Type 0 where
  OfTypes OfFuncs OfGlobals : ℕ → Name

abbrev pub number_of : Name → ℕ
number_of (OfTypes k) = k
number_of (OfFuncs k) = k
number_of (OfGlobals k) = k

-- the refusal of a name that has no index
abbrev pub no_index : Name → NoIndex
no_index (OfTypes k) = OfType k
no_index (OfFuncs k) = OfFunc k
no_index (OfGlobals k) = OfGlobal k

-- what is known of the names of each kind
pub record LookUp : Type 0 where
  pub types : ℕ → Option ℕ
  pub funcs : ℕ → Option ℕ
  pub globals : ℕ → Option ℕ

abbrev pub look_up : LookUp → Name → Option ℕ
look_up known (OfTypes k) = known.types k
look_up known (OfFuncs k) = known.funcs k
look_up known (OfGlobals k) = known.globals k

-- the id that an index stands for
abbrev pub ids_at : IdLists → LookUp
ids_at m =
    record { types = slice_get m.types; funcs = slice_get m.funcs; globals = slice_get m.globals }

-- the index that an id has
abbrev pub indices_of : IdsToIndices → LookUp
indices_of x =
    record {
      types = (type_indices x).index;
      funcs = (func_indices x).index;
      globals = (global_indices x).index;
    }

-- the first of these names that is not known
abbrev pub first_missing : LookUp → List Name → Option Name
first_missing known names = find (λ name. is_none (look_up known name)) names

-- what stands in place of each number, for each kind of names
pub record Renaming : Type 0 where
  pub types : ℕ → ℕ
  pub funcs : ℕ → ℕ
  pub globals : ℕ → ℕ

-- what is known of each name in its place, and 0 where nothing is
abbrev pub renaming_of : LookUp → Renaming
renaming_of known =
    record {
      types = value_or_zero known.types;
      funcs = value_or_zero known.funcs;
      globals = value_or_zero known.globals;
    }

-- each number sent through f and then through g
abbrev pub after : Renaming → Renaming → Renaming
after g f =
    record {
      types = λ k. g.types (f.types k);
      funcs = λ k. g.funcs (f.funcs k);
      globals = λ k. g.globals (f.globals k);
    }

-- what an operation names, with indices and with ids

abbrev pub op_at_names : ConstOpAt → List Name
op_at_names (at.GlobalGet k) = OfGlobals k ∷ []
op_at_names (at.RefNull h) = map OfTypes (heap_names h)
op_at_names (at.RefFunc k) = OfFuncs k ∷ []
op_at_names (at.StructNew k) = OfTypes k ∷ []
op_at_names (at.StructNewDefault k) = OfTypes k ∷ []
op_at_names (at.ArrayNew k) = OfTypes k ∷ []
op_at_names (at.ArrayNewDefault k) = OfTypes k ∷ []
op_at_names (at.ArrayNewFixed k len) = OfTypes k ∷ []
op_at_names other = []

abbrev pub op_names : ConstOp → List Name
op_names (op.GlobalGet k) = OfGlobals k ∷ []
op_names (op.RefNull r) = map OfTypes (heap_names r.heap_type)
op_names (op.RefFunc k) = OfFuncs k ∷ []
op_names (op.StructNew k) = OfTypes k ∷ []
op_names (op.StructNewDefault k) = OfTypes k ∷ []
op_names (op.ArrayNew k) = OfTypes k ∷ []
op_names (op.ArrayNewDefault k) = OfTypes k ∷ []
op_names (op.ArrayNewFixed k len) = OfTypes k ∷ []
op_names other = []

-- the nullable reference type to this heap type, with each number sent through the map
abbrev pub null_of : (ℕ → ℕ) → Heap ℕ → Reference ℕ
null_of f h = record { nullable = true; heap_type = rename_heap f h }

-- an operation read with each name sent through the map; a null reference is read as nullable
abbrev pub op_read : Renaming → ConstOpAt → ConstOp
op_read f (at.I32Const n) = op.I32Const n
op_read f (at.I64Const n) = op.I64Const n
op_read f (at.F32Const n) = op.F32Const n
op_read f (at.F64Const n) = op.F64Const n
op_read f (at.V128Const n) = op.V128Const n
op_read f (at.GlobalGet k) = op.GlobalGet (f.globals k)
op_read f (at.RefNull h) = op.RefNull (null_of f.types h)
op_read f (at.RefFunc k) = op.RefFunc (f.funcs k)
op_read f at.I32Add = op.I32Add
op_read f at.I32Sub = op.I32Sub
op_read f at.I32Mul = op.I32Mul
op_read f at.I64Add = op.I64Add
op_read f at.I64Sub = op.I64Sub
op_read f at.I64Mul = op.I64Mul
op_read f at.RefI31 = op.RefI31
op_read f at.AnyConvertExtern = op.AnyConvertExtern
op_read f at.ExternConvertAny = op.ExternConvertAny
op_read f (at.StructNew k) = op.StructNew (f.types k)
op_read f (at.StructNewDefault k) = op.StructNewDefault (f.types k)
op_read f (at.ArrayNew k) = op.ArrayNew (f.types k)
op_read f (at.ArrayNewDefault k) = op.ArrayNewDefault (f.types k)
op_read f (at.ArrayNewFixed k len) = op.ArrayNewFixed (f.types k) len

-- an operation written with each name sent through the map; of a null reference the heap type is
-- written alone
abbrev pub op_written : Renaming → ConstOp → ConstOpAt
op_written f (op.I32Const n) = at.I32Const n
op_written f (op.I64Const n) = at.I64Const n
op_written f (op.F32Const n) = at.F32Const n
op_written f (op.F64Const n) = at.F64Const n
op_written f (op.V128Const n) = at.V128Const n
op_written f (op.GlobalGet k) = at.GlobalGet (f.globals k)
op_written f (op.RefNull r) = at.RefNull (rename_heap f.types r.heap_type)
op_written f (op.RefFunc k) = at.RefFunc (f.funcs k)
op_written f op.I32Add = at.I32Add
op_written f op.I32Sub = at.I32Sub
op_written f op.I32Mul = at.I32Mul
op_written f op.I64Add = at.I64Add
op_written f op.I64Sub = at.I64Sub
op_written f op.I64Mul = at.I64Mul
op_written f op.RefI31 = at.RefI31
op_written f op.AnyConvertExtern = at.AnyConvertExtern
op_written f op.ExternConvertAny = at.ExternConvertAny
op_written f (op.StructNew k) = at.StructNew (f.types k)
op_written f (op.StructNewDefault k) = at.StructNewDefault (f.types k)
op_written f (op.ArrayNew k) = at.ArrayNew (f.types k)
op_written f (op.ArrayNewDefault k) = at.ArrayNewDefault (f.types k)
op_written f (op.ArrayNewFixed k len) = at.ArrayNewFixed (f.types k) len

-- an operation with each name sent through the map
abbrev pub rename_op : Renaming → ConstOpAt → ConstOpAt
rename_op f (at.I32Const n) = at.I32Const n
rename_op f (at.I64Const n) = at.I64Const n
rename_op f (at.F32Const n) = at.F32Const n
rename_op f (at.F64Const n) = at.F64Const n
rename_op f (at.V128Const n) = at.V128Const n
rename_op f (at.GlobalGet k) = at.GlobalGet (f.globals k)
rename_op f (at.RefNull h) = at.RefNull (rename_heap f.types h)
rename_op f (at.RefFunc k) = at.RefFunc (f.funcs k)
rename_op f at.I32Add = at.I32Add
rename_op f at.I32Sub = at.I32Sub
rename_op f at.I32Mul = at.I32Mul
rename_op f at.I64Add = at.I64Add
rename_op f at.I64Sub = at.I64Sub
rename_op f at.I64Mul = at.I64Mul
rename_op f at.RefI31 = at.RefI31
rename_op f at.AnyConvertExtern = at.AnyConvertExtern
rename_op f at.ExternConvertAny = at.ExternConvertAny
rename_op f (at.StructNew k) = at.StructNew (f.types k)
rename_op f (at.StructNewDefault k) = at.StructNewDefault (f.types k)
rename_op f (at.ArrayNew k) = at.ArrayNew (f.types k)
rename_op f (at.ArrayNewDefault k) = at.ArrayNewDefault (f.types k)
rename_op f (at.ArrayNewFixed k len) = at.ArrayNewFixed (f.types k) len

-- the operation that gives this constant
abbrev pub constant : Value → ConstOp
constant (value.I32 n) = op.I32Const n
constant (value.I64 n) = op.I64Const n
constant (value.F32 bits) = op.F32Const bits
constant (value.F64 bits) = op.F64Const bits
constant (value.V128 bits) = op.V128Const bits

-- the form of its own that an operation has where it stands alone, if it has one
abbrev pub plain_form : ConstOp → Option ConstExpr
plain_form (op.I32Const n) = Some (expr.Value (value.I32 n))
plain_form (op.I64Const n) = Some (expr.Value (value.I64 n))
plain_form (op.F32Const bits) = Some (expr.Value (value.F32 bits))
plain_form (op.F64Const bits) = Some (expr.Value (value.F64 bits))
plain_form (op.V128Const bits) = Some (expr.Value (value.V128 bits))
plain_form (op.GlobalGet id) = Some (expr.Global id)
plain_form (op.RefNull ty) = Some (expr.RefNull ty)
plain_form (op.RefFunc id) = Some (expr.RefFunc id)
plain_form other = None

-- the expression of these operations: the form of its own that one operation has, or else the list
abbrev pub expr_of : List ConstOp → ConstExpr
expr_of [] = expr.Extended []
expr_of (only ∷ []) = unwrap_or (plain_form only) (expr.Extended (only ∷ []))
expr_of (first ∷ second ∷ rest) = expr.Extended (first ∷ second ∷ rest)

-- the operations of an expression
abbrev pub ops_of : ConstExpr → List ConstOp
ops_of (expr.Value v) = constant v ∷ []
ops_of (expr.Global id) = op.GlobalGet id ∷ []
ops_of (expr.RefNull ty) = op.RefNull ty ∷ []
ops_of (expr.RefFunc id) = op.RefFunc id ∷ []
ops_of (expr.Extended ops) = ops

-- it is a list of operations
abbrev pub IsExtended : ConstExpr → Type 0
IsExtended (expr.Extended ops) = Unit {0}
IsExtended other = ⊥

-- the types among these names
abbrev pub types_among : List Name → List ℕ
types_among [] = []
types_among (OfTypes k ∷ rest) = k ∷ types_among rest
types_among (OfFuncs k ∷ rest) = types_among rest
types_among (OfGlobals k ∷ rest) = types_among rest

-- the types that an operation names
abbrev pub op_types : ConstOp → List ℕ
op_types o = types_among (op_names o)

-- the types that an expression names, from left to right, each as often as it is named
abbrev pub referenced_ids : ConstExpr → List ℕ
referenced_ids x = flat_map op_types (ops_of x)
