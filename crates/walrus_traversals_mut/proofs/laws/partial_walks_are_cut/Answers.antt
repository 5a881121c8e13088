use Rattle.walrus_traversals_mut.proofs.Counting.{cut_walk}
use Rattle.walrus_traversals_mut.proofs.laws.partial_walks_are_cut.Goals as goal

pub returns : goal.returns
returns g c = cut_walk g.V.VisitorMut.step
