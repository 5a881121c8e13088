use Rattle.std.proofs.Common.{rules}
use Rattle.walrus_functions.proofs.local_functions.LocalFunctions.new_after.Goals as goal

pub returns : goal.returns
returns c = search rules
