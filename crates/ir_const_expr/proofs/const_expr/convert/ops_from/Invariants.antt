use Rattle.std.proofs.Common.{◌≡◌, map, take, drop}
use Rattle.std.specs.List.{flat_map}
use Rattle.ir_const_expr.specs.ConstExpr.{ids_at, renaming_of, first_missing, op_at_names, op_read}
use Rattle.ir_const_expr.proofs.const_expr.convert.ops_from.Given as goal

abbrev pub invariant-loop-record : goal.invariant-loop-record
invariant-loop-record l = record {
  left : first_missing (ids_at l.ids) (flat_map op_at_names (drop l.record-index l.records)) ≡ first_missing
      (ids_at l.ids) (flat_map op_at_names l.records);
  done : l.ops ≡ map (op_read (renaming_of (ids_at l.ids))) (take l.record-index l.records);
}
