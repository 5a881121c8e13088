use Rattle.std.proofs.Common.{rules}
use Rattle.ir_operators.proofs.kinds.LoadKind.width.Goals as goal

pub returns-in-I64 : goal.returns-in-I64
returns-in-I64 c = search rules

pub returns-in-I64-2 : goal.returns-in-I64-2
returns-in-I64-2 c = search rules
