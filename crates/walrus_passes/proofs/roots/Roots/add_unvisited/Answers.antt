use Rattle.std.proofs.Common.{rules}
use Rattle.walrus_passes.proofs.roots.Roots.add_unvisited.Goals as goal

pub returns-in-RefNull : goal.returns-in-RefNull
returns-in-RefNull c = search rules
