use Rattle.walrus_arena.proofs.CallLemmas.{inserted, set_refused}
use Rattle.walrus_arena.proofs.laws.calls.insert.Goals as goal

pub returns-clause-ok : goal.returns-clause-ok
returns-clause-ok g c = inserted g.T.PartialEq.eq _ _ c.args.value c.insert.result c.insert.ensures.ok

pub returns-clause-err : goal.returns-clause-err
returns-clause-err g c = set_refused g.T.PartialEq.eq _ _ c.insert.result c.insert.ensures.err
