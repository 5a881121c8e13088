use Rattle.walrus_traversals_mut.proofs.Determined.{cut_unique}
use Rattle.walrus_traversals_mut.proofs.laws.cut_walks_are_determined.Goals as goal

pub returns : goal.returns
returns g c = cut_unique g.V.VisitorMut.step
