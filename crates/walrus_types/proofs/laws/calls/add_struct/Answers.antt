use Rattle.walrus_types.proofs.Tables.MadeCalls.{added, not_added}
use Rattle.walrus_types.proofs.laws.calls.add_struct.Goals as goal

pub returns-clause-ok : goal.returns-clause-ok
returns-clause-ok c = added _ _ _ c.add_struct.result c.add_struct.ensures.ok

pub returns-clause-err : goal.returns-clause-err
returns-clause-err c = not_added _ _ c.add_struct.result c.add_struct.ensures.err
