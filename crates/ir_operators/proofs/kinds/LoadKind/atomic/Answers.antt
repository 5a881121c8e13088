use Rattle.std.proofs.Common.{rules}
use Rattle.ir_operators.proofs.kinds.LoadKind.atomic.Goals as goal

pub returns-in-F32 : goal.returns-in-F32
returns-in-F32 c = search rules

pub returns-in-F32-2 : goal.returns-in-F32-2
returns-in-F32-2 c = search rules

pub returns-in-F32-3 : goal.returns-in-F32-3
returns-in-F32-3 c = search rules
