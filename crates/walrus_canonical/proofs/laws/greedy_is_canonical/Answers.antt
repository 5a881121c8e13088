use Rattle.walrus_canonical.proofs.laws.greedy_is_canonical.Goals as goal
use Rattle.walrus_canonical.proofs.Forms.Greedy as lemmas

pub returns : goal.returns
returns c = lemmas.greedy_is_canonical
