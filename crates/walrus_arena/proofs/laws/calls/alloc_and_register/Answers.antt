use Rattle.walrus_arena.proofs.CallLemmas.{added, set_refused}
use Rattle.walrus_arena.proofs.laws.calls.alloc_and_register.Goals as goal

pub returns-clause-ok : goal.returns-clause-ok
returns-clause-ok g c = added g.T.PartialEq.eq _ _ c.args.value c.alloc_and_register.result
    c.alloc_and_register.ensures.ok

pub returns-clause-err : goal.returns-clause-err
returns-clause-err g c = set_refused g.T.PartialEq.eq _ _ c.alloc_and_register.result
    c.alloc_and_register.ensures.err
