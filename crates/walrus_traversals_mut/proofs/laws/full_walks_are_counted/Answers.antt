use Rattle.walrus_traversals_mut.proofs.Counting.{counted_walk}
use Rattle.walrus_traversals_mut.proofs.Determined.{count_unique}
use Rattle.walrus_traversals_mut.proofs.laws.full_walks_are_counted.Goals as goal

pub returns-clause-counted : goal.returns-clause-counted
returns-clause-counted g c = counted_walk g.V.VisitorMut.step

pub returns-clause-determined : goal.returns-clause-determined
returns-clause-determined g c = count_unique g.V.VisitorMut.step
