use Rattle.std.proofs.Common.{rules}
use Rattle.ir_const_expr.proofs.const_expr.convert.Ops.read.Goals as goal

pub returns-clause-op : goal.returns-clause-op
returns-clause-op c = search rules
