use Rattle.walrus_traversals_mut.proofs.Keeping.{keeps_children_added}
use Rattle.walrus_traversals_mut.proofs.laws.instrs_without_children_may_be_added.Goals as goal

pub returns : goal.returns
returns c = keeps_children_added
