use Rattle.walrus_arena.proofs.CallLemmas.{left_without, removed_all, set_refused}
use Rattle.walrus_arena.proofs.laws.calls.remove_all.Goals as goal

pub returns-clause-slots : goal.returns-clause-slots
returns-clause-slots g c = left_without g.T.PartialEq.eq _ _ c.args.ids.now c.remove_all.result
    c.remove_all.ensures.ok

pub returns-clause-ok : goal.returns-clause-ok
returns-clause-ok g c = removed_all g.T.PartialEq.eq _ _ c.args.ids.now c.remove_all.result
    c.remove_all.ensures.ok

pub returns-clause-err : goal.returns-clause-err
returns-clause-err g c = set_refused g.T.PartialEq.eq _ _ c.remove_all.result c.remove_all.ensures.err
