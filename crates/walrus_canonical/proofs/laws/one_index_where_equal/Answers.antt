use Rattle.walrus_canonical.proofs.laws.one_index_where_equal.Goals as goal
use Rattle.walrus_canonical.proofs.Forms.Listings as lemmas

pub returns : goal.returns
returns c = lemmas.sound
