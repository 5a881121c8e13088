use Rattle.walrus_canonical.proofs.laws.fewest_entries.Goals as goal
use Rattle.walrus_canonical.proofs.Forms.Listings as lemmas

pub returns : goal.returns
returns c = lemmas.fewest
