use Rattle.walrus_canonical.proofs.laws.equal_roots.Goals as goal
use Rattle.walrus_canonical.proofs.Equality.EqualRoots as lemmas

pub returns : goal.returns
returns c = lemmas.among_by_roots
