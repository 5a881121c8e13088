use Rattle.walrus_sections.specs.Section.{index_space}
use Rattle.walrus_canonical.proofs.laws.equal_types.Goals as goal
use Rattle.walrus_canonical.proofs.Equality.EqualTypes.{equal_itself, equal_back, equal_over, equal_mates, equal_names}

pub returns-clause-itself : goal.returns-clause-itself
returns-clause-itself c = λ s i w h. equal_itself s w.below_ends i h

pub returns-clause-back : goal.returns-clause-back
returns-clause-back c = λ s t. equal_back (index_space s) (index_space t)

pub returns-clause-over : goal.returns-clause-over
returns-clause-over c = λ s t u. equal_over (index_space s) (index_space t) (index_space u)

pub returns-clause-mates : goal.returns-clause-mates
returns-clause-mates c = λ s t. equal_mates (index_space s) (index_space t)

pub returns-clause-names : goal.returns-clause-names
returns-clause-names c = λ s t. equal_names (index_space s) (index_space t)
