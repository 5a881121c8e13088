use Rattle.walrus_traversals_mut.proofs.Determined.{walk_unique}
use Rattle.walrus_traversals_mut.proofs.laws.full_walks_are_determined.Goals as goal

pub returns : goal.returns
returns g c = walk_unique g.V.VisitorMut.step
