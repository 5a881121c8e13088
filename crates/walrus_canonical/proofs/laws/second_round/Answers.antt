use Rattle.walrus_canonical.proofs.laws.second_round.Goals as goal
use Rattle.walrus_canonical.proofs.Forms.Canonical as lemmas

pub returns-clause-whole : goal.returns-clause-whole
returns-clause-whole c = lemmas.second_round

pub returns-clause-pruned : goal.returns-clause-pruned
returns-clause-pruned c = lemmas.second_pruning
