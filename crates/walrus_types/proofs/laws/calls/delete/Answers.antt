use Rattle.walrus_types.proofs.Tables.MadeCalls.{deleted}
use Rattle.walrus_types.proofs.laws.calls.delete.Goals as goal

pub returns-clause-ok : goal.returns-clause-ok
returns-clause-ok c = deleted _ _ c.args.id c.requires c.delete.result c.delete.ensures.ok
