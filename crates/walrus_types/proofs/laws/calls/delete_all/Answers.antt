use Rattle.walrus_types.proofs.Tables.MadeCalls.{deleted_all}
use Rattle.walrus_types.proofs.laws.calls.delete_all.Goals as goal

pub returns-clause-ok : goal.returns-clause-ok
returns-clause-ok c = deleted_all _ _ c.args.ids.now c.requires.live c.requires.distinct c.delete_all.result
    c.delete_all.ensures.ok
