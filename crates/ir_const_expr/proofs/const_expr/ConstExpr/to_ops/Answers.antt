use Rattle.std.proofs.Common.{rules}
use Rattle.ir_const_expr.proofs.const_expr.ConstExpr.to_ops.Goals as goal

pub returns-in-Extended-clause-ops : goal.returns-in-Extended-clause-ops
returns-in-Extended-clause-ops c = search rules

pub returns-in-Extended-clause-complete : goal.returns-in-Extended-clause-complete
returns-in-Extended-clause-complete c = search rules

pub returns-in-Extended-clause-missing : goal.returns-in-Extended-clause-missing
returns-in-Extended-clause-missing c = search rules
