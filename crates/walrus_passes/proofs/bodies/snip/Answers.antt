use Rattle.std.proofs.Common.{rules}
use Rattle.walrus_passes.proofs.bodies.snip.Goals as goal

pub returns-clause-ok : goal.returns-clause-ok
returns-clause-ok c = search rules
