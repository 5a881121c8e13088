use Rattle.std.proofs.Common.{rules}
use Rattle.walrus_functions.proofs.local_function.LocalFunction.entry.Goals as goal

pub returns-clause-value : goal.returns-clause-value
returns-clause-value c = search rules
