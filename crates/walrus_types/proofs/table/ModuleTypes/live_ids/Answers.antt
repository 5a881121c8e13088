use Rattle.std.proofs.Common.{rules}
use Rattle.walrus_types.proofs.Tables.Deletions.{live_listed}
use Rattle.walrus_types.proofs.table.ModuleTypes.live_ids.Goals as goal

pub returns : goal.returns
returns c = search (rules, live_listed)
