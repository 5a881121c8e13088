use Rattle.std.proofs.Common.{rules}
use Rattle.walrus_functions.proofs.local_functions.LocalFunctions.add.Goals as goal

pub returns-clause-ok : goal.returns-clause-ok
returns-clause-ok c = search rules

pub returns-in-Err-clause-back : goal.returns-in-Err-clause-back
returns-in-Err-clause-back c = search rules
