use Rattle.std.proofs.lemmas.Result.{on_err_weaker}
use Rattle.walrus_traversals.proofs.Walks.Folds.{after_step}
use Rattle.walrus_traversals.proofs.traversals.report_start.Goals as goal

pub returns-clause-err : goal.returns-clause-err
returns-clause-err g c =
    rw (← c.seq.view_is)
    (on_err_weaker c.report_type.result
    (λ k. after_step _ _ _ _ _ _ (rw (← c.seq.view_is) at c.in_ok-start_instr_seq.ensures.ok) k)
    c.report_type.ensures.err)
