use Rattle.walrus_types.proofs.Tables.MadeCalls.{tried}
use Rattle.walrus_types.proofs.laws.calls.try_delete.Goals as goal

pub returns-clause-ok : goal.returns-clause-ok
returns-clause-ok c = tried _ _ c.args.id c.requires c.try_delete.result c.try_delete.ensures.ok
