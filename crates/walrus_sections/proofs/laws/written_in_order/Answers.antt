use Rattle.walrus_sections.proofs.Emission.PairsOfGroups.{emission, first_missing, none_missing}
use Rattle.walrus_sections.proofs.laws.written_in_order.Goals as goal

pub returns-clause-emission : goal.returns-clause-emission
returns-clause-emission c = λ t order m ord single is. emission t order ord single m is

pub returns-clause-complete : goal.returns-clause-complete
returns-clause-complete c = λ t order ord none. none_missing t order ord none

pub returns-clause-missing : goal.returns-clause-missing
returns-clause-missing c = λ t order from to ord f. first_missing t order ord from to f
