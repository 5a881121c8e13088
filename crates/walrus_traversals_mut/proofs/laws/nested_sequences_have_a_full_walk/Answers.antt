use Rattle.walrus_traversals_mut.proofs.Existing.{full_walk}
use Rattle.walrus_traversals_mut.proofs.laws.nested_sequences_have_a_full_walk.Goals as goal

pub returns : goal.returns
returns g c = full_walk g.V.VisitorMut.step
