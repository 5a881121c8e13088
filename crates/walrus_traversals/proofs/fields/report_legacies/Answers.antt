use Rattle.std.proofs.lemmas.Result.{err_from_is_err_and}
use Rattle.walrus_ir.specs.Calls.{reported}
use Rattle.walrus_ir.specs.Fields.{legacy_fields}
use Rattle.walrus_traversals.proofs.Walks.Folds.{after_items, next_item}
use Rattle.walrus_traversals.proofs.fields.report_legacies.Goals as goal

pub returns-in_err-report_legacy-clause-err : goal.returns-in_err-report_legacy-clause-err
returns-in_err-report_legacy-clause-err g c =
    let p = err_from_is_err_and c.from_residual.result c.from_residual.ensures.1 in
    rw (p.1, c.in_err-report_legacy.ensures.err)
    (after_items _ _ _ (λ x. reported (legacy_fields x)) c.loop-clause.clause-index _ c.loop-clause.invariant)

pub loop-clause-preserved : goal.loop-clause-preserved
loop-clause-preserved g c =
    next_item _ _ _ _ (λ x. reported (legacy_fields x)) c.loop-clause.clause-index _ c.clause-item.result
    c.loop-clause.invariant c.clause-item.is c.loop-clause-test.true c.in_ok-report_legacy.ensures.ok
