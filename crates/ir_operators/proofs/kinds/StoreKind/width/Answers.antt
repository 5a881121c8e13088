use Rattle.std.proofs.Common.{rules}
use Rattle.ir_operators.proofs.kinds.StoreKind.width.Goals as goal

pub returns-in-V128 : goal.returns-in-V128
returns-in-V128 c = search rules
