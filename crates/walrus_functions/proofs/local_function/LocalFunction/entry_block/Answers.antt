use Rattle.std.proofs.Common.{rules}
use Rattle.walrus_functions.proofs.local_function.LocalFunction.entry_block.Goals as goal

pub returns-clause-value : goal.returns-clause-value
returns-clause-value c = search rules

pub returns-clause-known : goal.returns-clause-known
returns-clause-known c = search rules
