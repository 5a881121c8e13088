use Rattle.std.proofs.Common.{rules}
use Rattle.walrus_id.proofs.id.Key.from_index.Goals as goal

pub returns : goal.returns
returns g c = search rules
