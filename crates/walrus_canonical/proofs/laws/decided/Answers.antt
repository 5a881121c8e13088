use Rattle.walrus_canonical.proofs.laws.decided.Goals as goal
use Rattle.walrus_canonical.proofs.Equality.DecidedTypes.{equal_or_not}
use Rattle.walrus_canonical.proofs.Needs.DecidedNeeds.{needed_or_not}

pub returns-clause-equal : goal.returns-clause-equal
returns-clause-equal c = λ s t i j w. equal_or_not s t w.below_ends i j

pub returns-clause-needed : goal.returns-clause-needed
returns-clause-needed c = λ s roots i w known. needed_or_not s roots w.below_ends known i
