use Rattle.std.proofs.Common.{rules}
use Rattle.ir_operators.proofs.kinds.StoreKind.atomic.Goals as goal

pub returns-in-I32 : goal.returns-in-I32
returns-in-I32 c = search rules

pub returns-in-I32-2 : goal.returns-in-I32-2
returns-in-I32-2 c = search rules

pub returns-in-I32-3 : goal.returns-in-I32-3
returns-in-I32-3 c = search rules

pub returns-in-I32-4 : goal.returns-in-I32-4
returns-in-I32-4 c = search rules

pub returns-in-I32-5 : goal.returns-in-I32-5
returns-in-I32-5 c = search rules

pub returns-in-I32-6 : goal.returns-in-I32-6
returns-in-I32-6 c = search rules

pub returns-in-I32-7 : goal.returns-in-I32-7
returns-in-I32-7 c = search rules
