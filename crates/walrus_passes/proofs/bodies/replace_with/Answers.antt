use Rattle.std.proofs.Common.{rules}
use Rattle.walrus_passes.proofs.bodies.replace_with.Goals as goal

pub returns-clause-ok : goal.returns-clause-ok
returns-clause-ok c = search rules
