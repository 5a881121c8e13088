use Rattle.std.proofs.Common.{rules}
use Rattle.ir_const_expr.proofs.const_expr.convert.null_type.Goals as goal

pub returns-clause-renamed : goal.returns-clause-renamed
returns-clause-renamed c = search rules
