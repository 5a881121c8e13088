-- Operators, what memory accesses touch, and constants.
pub use Rattle.ir_operators.specs.Values
pub use Rattle.ir_operators.specs.Atomics
pub use Rattle.ir_operators.specs.Loads
pub use Rattle.ir_operators.specs.Stores
pub use Rattle.ir_operators.specs.declared.atomics.AtomicOp
pub use Rattle.ir_operators.specs.declared.atomics.AtomicWidth
pub use Rattle.ir_operators.specs.declared.binary_op.BinaryOp
pub use Rattle.ir_operators.specs.declared.kinds.ExtendedLoad
pub use Rattle.ir_operators.specs.declared.kinds.LoadKind
pub use Rattle.ir_operators.specs.declared.kinds.StoreKind
pub use Rattle.ir_operators.specs.declared.kinds.LoadSimdKind
pub use Rattle.ir_operators.specs.declared.ternary_op.TernaryOp
pub use Rattle.ir_operators.specs.declared.unary_op.UnaryOp
pub use Rattle.ir_operators.specs.declared.value.Value as ConstantValue
-- Instructions, sequences of them, and locals.
pub use Rattle.ir_instr.specs.BlockTypes
pub use Rattle.ir_instr.specs.Sequence
pub use Rattle.ir_instr.specs.Locals
pub use Rattle.ir_instr.specs.LocalParts
pub use Rattle.ir_instr.specs.LocalLends
pub use Rattle.ir_instr.specs.Locations
pub use Rattle.ir_instr.specs.Reachability
pub use Rattle.ir_instr.specs.declared.instr.Instr
pub use Rattle.ir_instr.specs.declared.exceptions.TryTableCatch
pub use Rattle.ir_instr.specs.declared.exceptions.LegacyCatch
pub use Rattle.ir_instr.specs.declared.instr_seq_type.InstrSeqType
-- Constant expressions.
pub use Rattle.ir_const_expr.specs.ConstExpr
pub use Rattle.ir_const_expr.specs.declared.const_expr.ConstExpr as ConstExprType
pub use Rattle.ir_const_expr.specs.declared.const_expr.ConstOp
pub use Rattle.ir_const_expr.specs.declared.const_expr.ConstOpAt
-- What walks visit.
pub mod Calls
pub mod Fields
pub mod Hooks
