use Rattle.walrus_canonical.proofs.laws.one_form_where_equal.Goals as goal
use Rattle.walrus_canonical.proofs.Forms.Canonical as lemmas

pub returns : goal.returns
returns c = lemmas.complete
