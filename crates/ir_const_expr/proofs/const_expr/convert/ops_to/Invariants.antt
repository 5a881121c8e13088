use Rattle.std.proofs.Common.{◌≡◌, map, take, drop}
use Rattle.std.specs.List.{flat_map}
use Rattle.ir_const_expr.specs.ConstExpr.{indices_of, renaming_of, first_missing, op_names, op_written}
use Rattle.ir_const_expr.proofs.const_expr.convert.ops_to.Given as goal

abbrev pub invariant-loop-op : goal.invariant-loop-op
invariant-loop-op l = record {
  left : first_missing (indices_of l.indices) (flat_map op_names (drop l.op-index l.ops)) ≡ first_missing
      (indices_of l.indices) (flat_map op_names l.ops);
  done : l.records.items ≡ map (op_written (renaming_of (indices_of l.indices))) (take l.op-index l.ops);
}
