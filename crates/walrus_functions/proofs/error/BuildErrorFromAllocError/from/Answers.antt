use Rattle.std.proofs.Common.{rules}
use Rattle.walrus_functions.proofs.error.BuildErrorFromAllocError.from.Goals as goal

pub returns : goal.returns
returns c = search rules
