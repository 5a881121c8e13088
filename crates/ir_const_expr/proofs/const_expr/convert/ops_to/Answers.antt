use Rattle.std.proofs.lemmas.Result.{err_from_is_err_and}
use Rattle.ir_const_expr.specs.ConstExpr.{indices_of}
use Rattle.ir_const_expr.proofs.ConstExprLemmas.{missing_here}
use Rattle.ir_const_expr.proofs.const_expr.convert.ops_to.Goals as goal

pub returns-in_err-to_record-clause-missing : goal.returns-in_err-to_record-clause-missing
returns-in_err-to_record-clause-missing c =
    let p = err_from_is_err_and c.from_residual-in_err-to_record.result
    c.from_residual-in_err-to_record.ensures.1 in
    rw (p.1, p.2) (missing_here (indices_of c.args.indices.now) c.args.ops.now c.loop-op.op-index
    c.op-item.result c.in_err-to_record.field-0.0 c.loop-op-test.true c.op-item.is
    c.loop-op.invariant.left c.in_err-to_record.ensures.missing)
