use Rattle.walrus_types.proofs.Tables.MadeCalls.{cloned}
use Rattle.walrus_types.proofs.laws.calls.clone.Goals as goal

pub returns : goal.returns
returns c = cloned _ c.args.types.now c.clone.result c.clone.ensures.cases
