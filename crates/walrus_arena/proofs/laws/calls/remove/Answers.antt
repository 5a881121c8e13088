use Rattle.walrus_arena.proofs.CallLemmas.{removed, set_refused}
use Rattle.walrus_arena.proofs.laws.calls.remove.Goals as goal

pub returns-clause-ok : goal.returns-clause-ok
returns-clause-ok g c = removed g.T.PartialEq.eq _ _ c.args.id c.remove.result c.remove.ensures.ok

pub returns-clause-err : goal.returns-clause-err
returns-clause-err g c = set_refused g.T.PartialEq.eq _ _ c.remove.result c.remove.ensures.err
