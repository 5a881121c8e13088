use Rattle.std.proofs.Common.{◌≡◌, ◌++◌, take}
use Rattle.std.specs.List.{flat_map}
use Rattle.ir_const_expr.specs.ConstExpr.{op_types}
use Rattle.ir_const_expr.proofs.const_expr.referenced.push_types_of.Given as goal

abbrev pub invariant-loop-op : goal.invariant-loop-op
invariant-loop-op l = l.list.items ≡ l.fn.list.items ++ flat_map op_types (take l.op-index l.ops)
