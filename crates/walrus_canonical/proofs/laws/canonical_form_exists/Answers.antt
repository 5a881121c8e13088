use Rattle.walrus_canonical.proofs.laws.canonical_form_exists.Goals as goal
use Rattle.walrus_canonical.proofs.Forms.Existence as lemmas

pub returns : goal.returns
returns c = lemmas.canonical_exists
