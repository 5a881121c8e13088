use Rattle.std.proofs.Common.{rules}
use Rattle.walrus_id.proofs.id.KeyHash.hash.Goals as goal

pub returns : goal.returns
returns g c = search rules
