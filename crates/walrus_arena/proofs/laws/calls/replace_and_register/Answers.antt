use Rattle.walrus_arena.proofs.CallLemmas.{registered, set_refused}
use Rattle.walrus_arena.proofs.laws.calls.replace_and_register.Goals as goal

pub returns-clause-ok : goal.returns-clause-ok
returns-clause-ok g c = registered g.T.PartialEq.eq _ _ c.args.id c.args.value c.replace_and_register.result
    c.replace_and_register.ensures.ok

pub returns-clause-err : goal.returns-clause-err
returns-clause-err g c = set_refused g.T.PartialEq.eq _ _ c.replace_and_register.result
    c.replace_and_register.ensures.err
