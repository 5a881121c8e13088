use Rattle.std.proofs.Common.{rules}
use Rattle.walrus_functions.proofs.local_function.LocalFunction.block_mut.Goals as goal

pub returns : goal.returns
returns c = search rules
