use Rattle.std.proofs.Common.{rules}
use Rattle.ir_operators.proofs.atomics.AtomicWidth.bytes.Goals as goal

pub returns-in-I64 : goal.returns-in-I64
returns-in-I64 c = search rules
