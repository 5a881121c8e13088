use Rattle.std.proofs.Common.{rules}
use Rattle.walrus_functions.proofs.local_function.LocalFunction.name.Goals as goal

pub returns : goal.returns
returns c = search rules
