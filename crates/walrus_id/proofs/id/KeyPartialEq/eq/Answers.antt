use Rattle.std.proofs.Common.{rules}
use Rattle.walrus_id.proofs.id.KeyPartialEq.eq.Goals as goal

pub returns : goal.returns
returns g c = search rules
