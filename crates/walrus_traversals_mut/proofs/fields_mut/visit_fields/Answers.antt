use Rattle.std.proofs.Common.{rules}
use Rattle.std.proofs.lemmas.Result.{err_from_is_err_and, on_ok_weaker, on_err_weaker}
use Rattle.ir_instr.specs.declared.instr.Instr.TheVariants as instr
use Rattle.walrus_ir.specs.Calls.{Full, Partial}
use Rattle.walrus_ir.specs.Fields.{clause_fields, legacy_fields}
use Rattle.walrus_ir.specs.Hooks.{visit_instr_seq_id}
use Rattle.walrus_ir.proofs.Calls.{then_list, before_list, clauses_whole, legacies_whole}
use Rattle.walrus_traversals_mut.specs.Steps.{keeping}
use Rattle.walrus_traversals_mut.proofs.fields_mut.visit_fields.Goals as goal

pub returns-in_err-visit_instr_seq_id_mut-in-TryTable-clause-err :
    goal.returns-in_err-visit_instr_seq_id_mut-in-TryTable-clause-err
returns-in_err-visit_instr_seq_id_mut-in-TryTable-clause-err g c =
    let residual = c.from_residual-in_err-visit_instr_seq_id_mut-in-TryTable in
    let p = err_from_is_err_and residual.result residual.ensures.1 in
    let e = c.in_err-visit_instr_seq_id_mut-in-TryTable.ensures.err in
    rw (p.1, c.in-TryTable.is) (before_list (keeping g.V.VisitorMut.step) visit_instr_seq_id clause_fields
    (λ a b. instr.TryTable (record { seq = a; catches = b })) _ _ _ _ _ clauses_whole e.0 e.1)

pub returns-in_ok-visit_instr_seq_id_mut-in-TryTable-clause-ok :
    goal.returns-in_ok-visit_instr_seq_id_mut-in-TryTable-clause-ok
returns-in_ok-visit_instr_seq_id_mut-in-TryTable-clause-ok g c =
    let seq = c.in_ok-visit_instr_seq_id_mut-in-TryTable.ensures in
    let new = c.visit_catches.new in
    rw c.in-TryTable.is (on_ok_weaker c.visit_catches.result (λ k.
    then_list (keeping g.V.VisitorMut.step) visit_instr_seq_id clause_fields
    (λ a b. instr.TryTable (record { seq = a; catches = b })) _ c.in-TryTable.x.catches _ _ new.visitor _
    Full new.clauses (seq.ok, seq.nesting) k) c.visit_catches.ensures.ok)

pub returns-in_ok-visit_instr_seq_id_mut-in-TryTable-clause-err :
    goal.returns-in_ok-visit_instr_seq_id_mut-in-TryTable-clause-err
returns-in_ok-visit_instr_seq_id_mut-in-TryTable-clause-err g c =
    let seq = c.in_ok-visit_instr_seq_id_mut-in-TryTable.ensures in
    let new = c.visit_catches.new in
    rw c.in-TryTable.is (on_err_weaker c.visit_catches.result (λ k.
    then_list (keeping g.V.VisitorMut.step) visit_instr_seq_id clause_fields
    (λ a b. instr.TryTable (record { seq = a; catches = b })) _ c.in-TryTable.x.catches _ _ new.visitor _
    Partial new.clauses (seq.ok, seq.nesting) k) c.visit_catches.ensures.err)

pub returns-in_err-visit_instr_seq_id_mut-in-Try-clause-err :
    goal.returns-in_err-visit_instr_seq_id_mut-in-Try-clause-err
returns-in_err-visit_instr_seq_id_mut-in-Try-clause-err g c =
    let residual = c.from_residual-in_err-visit_instr_seq_id_mut-in-Try in
    let p = err_from_is_err_and residual.result residual.ensures.1 in
    let e = c.in_err-visit_instr_seq_id_mut-in-Try.ensures.err in
    rw (p.1, c.in-Try.is) (before_list (keeping g.V.VisitorMut.step) visit_instr_seq_id legacy_fields
    (λ a b. instr.Try (record { seq = a; catches = b })) _ _ _ _ _ legacies_whole e.0 e.1)

pub returns-in_ok-visit_instr_seq_id_mut-in-Try-clause-ok :
    goal.returns-in_ok-visit_instr_seq_id_mut-in-Try-clause-ok
returns-in_ok-visit_instr_seq_id_mut-in-Try-clause-ok g c =
    let seq = c.in_ok-visit_instr_seq_id_mut-in-Try.ensures in
    let new = c.visit_legacy_catches.new in
    rw c.in-Try.is (on_ok_weaker c.visit_legacy_catches.result (λ k.
    then_list (keeping g.V.VisitorMut.step) visit_instr_seq_id legacy_fields
    (λ a b. instr.Try (record { seq = a; catches = b })) _ c.in-Try.x.catches _ _ new.visitor _
    Full new.clauses (seq.ok, seq.nesting) k) c.visit_legacy_catches.ensures.ok)

pub returns-in_ok-visit_instr_seq_id_mut-in-Try-clause-err :
    goal.returns-in_ok-visit_instr_seq_id_mut-in-Try-clause-err
returns-in_ok-visit_instr_seq_id_mut-in-Try-clause-err g c =
    let seq = c.in_ok-visit_instr_seq_id_mut-in-Try.ensures in
    let new = c.visit_legacy_catches.new in
    rw c.in-Try.is (on_err_weaker c.visit_legacy_catches.result (λ k.
    then_list (keeping g.V.VisitorMut.step) visit_instr_seq_id legacy_fields
    (λ a b. instr.Try (record { seq = a; catches = b })) _ c.in-Try.x.catches _ _ new.visitor _
    Partial new.clauses (seq.ok, seq.nesting) k) c.visit_legacy_catches.ensures.err)

pub returns-in_ok-visit_memory_id_mut-in-MemoryCopy-clause-ok :
    goal.returns-in_ok-visit_memory_id_mut-in-MemoryCopy-clause-ok
returns-in_ok-visit_memory_id_mut-in-MemoryCopy-clause-ok g c = search rules

pub returns-in_ok-visit_memory_id_mut-in-MemoryCopy-clause-err :
    goal.returns-in_ok-visit_memory_id_mut-in-MemoryCopy-clause-err
returns-in_ok-visit_memory_id_mut-in-MemoryCopy-clause-err g c = search rules
