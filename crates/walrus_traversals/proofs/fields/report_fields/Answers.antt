use Rattle.std.proofs.lemmas.Result.{on_ok_weaker, on_err_weaker}
use Rattle.ir_instr.specs.declared.instr.Instr.TheVariants as instr
use Rattle.walrus_ir.specs.Fields.{clause_fields, legacy_fields}
use Rattle.walrus_traversals.proofs.Walks.Folds.{after_two, folds_list, after_list}
use Rattle.walrus_traversals.proofs.fields.report_fields.Goals as goal

pub returns-in_ok-visit_heap_type-in-BrOnCast-clause-err :
    goal.returns-in_ok-visit_heap_type-in-BrOnCast-clause-err
returns-in_ok-visit_heap_type-in-BrOnCast-clause-err g c =
    let first = c.in_ok-visit_instr_seq_id-in-BrOnCast.ensures.ok in
    let second = c.in_ok-visit_heap_type-in-BrOnCast.ensures.ok in
    on_err_weaker c.visit_heap_type-in-BrOnCast.result
    (λ e. rw c.in-BrOnCast.is (after_two _ _ _ _ _ _ _ _ first second e))
    c.visit_heap_type-in-BrOnCast.ensures.err

pub returns-in_ok-visit_heap_type-in-BrOnCastFail-clause-err :
    goal.returns-in_ok-visit_heap_type-in-BrOnCastFail-clause-err
returns-in_ok-visit_heap_type-in-BrOnCastFail-clause-err g c =
    let first = c.in_ok-visit_instr_seq_id-in-BrOnCastFail.ensures.ok in
    let second = c.in_ok-visit_heap_type-in-BrOnCastFail.ensures.ok in
    on_err_weaker c.visit_heap_type-in-BrOnCastFail-2.result
    (λ e. rw c.in-BrOnCastFail.is (after_two _ _ _ _ _ _ _ _ first second e))
    c.visit_heap_type-in-BrOnCastFail-2.ensures.err

pub returns-in_ok-visit_instr_seq_id-in-TryTable-clause-ok :
    goal.returns-in_ok-visit_instr_seq_id-in-TryTable-clause-ok
returns-in_ok-visit_instr_seq_id-in-TryTable-clause-ok g c =
    let x = c.in-TryTable.x in
    let first = c.in_ok-visit_instr_seq_id-in-TryTable.ensures.ok in
    on_ok_weaker c.report_clauses.result
    (λ k. rw c.in-TryTable.is
    (folds_list _ _ _ _ _ clause_fields x.catches (λ b. instr.TryTable (record { seq = x.seq; catches = b }))
    first
    (rw (← c.as_slice.ensures) k)))
    c.report_clauses.ensures.ok

pub returns-in_ok-visit_instr_seq_id-in-TryTable-clause-err :
    goal.returns-in_ok-visit_instr_seq_id-in-TryTable-clause-err
returns-in_ok-visit_instr_seq_id-in-TryTable-clause-err g c =
    let x = c.in-TryTable.x in
    let first = c.in_ok-visit_instr_seq_id-in-TryTable.ensures.ok in
    on_err_weaker c.report_clauses.result
    (λ k. rw c.in-TryTable.is
    (after_list _ _ _ _ _ clause_fields x.catches (λ b. instr.TryTable (record { seq = x.seq; catches = b }))
    first
    (rw (← c.as_slice.ensures) k)))
    c.report_clauses.ensures.err

pub returns-in_ok-visit_instr_seq_id-in-Try-clause-ok : goal.returns-in_ok-visit_instr_seq_id-in-Try-clause-ok
returns-in_ok-visit_instr_seq_id-in-Try-clause-ok g c =
    let x = c.in-Try.x in
    let first = c.in_ok-visit_instr_seq_id-in-Try.ensures.ok in
    on_ok_weaker c.report_legacies.result
    (λ k. rw c.in-Try.is
    (folds_list _ _ _ _ _ legacy_fields x.catches (λ b. instr.Try (record { seq = x.seq; catches = b })) first
    (rw (← c.as_slice-in-Try.ensures) k)))
    c.report_legacies.ensures.ok

pub returns-in_ok-visit_instr_seq_id-in-Try-clause-err :
    goal.returns-in_ok-visit_instr_seq_id-in-Try-clause-err
returns-in_ok-visit_instr_seq_id-in-Try-clause-err g c =
    let x = c.in-Try.x in
    let first = c.in_ok-visit_instr_seq_id-in-Try.ensures.ok in
    on_err_weaker c.report_legacies.result
    (λ k. rw c.in-Try.is
    (after_list _ _ _ _ _ legacy_fields x.catches (λ b. instr.Try (record { seq = x.seq; catches = b })) first
    (rw (← c.as_slice-in-Try.ensures) k)))
    c.report_legacies.ensures.err
