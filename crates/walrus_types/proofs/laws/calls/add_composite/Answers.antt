use Rattle.walrus_types.proofs.Tables.MadeCalls.{added, not_added}
use Rattle.walrus_types.proofs.laws.calls.add_composite.Goals as goal

pub returns-clause-ok : goal.returns-clause-ok
returns-clause-ok c = added _ _ _ c.add_composite.result c.add_composite.ensures.ok

pub returns-clause-err : goal.returns-clause-err
returns-clause-err c = not_added _ _ c.add_composite.result c.add_composite.ensures.err
