use Rattle.walrus_unused.proofs.IndexMaps.{through}
use Rattle.walrus_unused.proofs.laws.new_indices_compose.Goals as goal

pub returns : goal.returns
returns c = through
