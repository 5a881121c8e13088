use Rattle.std.proofs.lemmas.Result.{err_from_is_err_and, on_ok_weaker, on_err_weaker}
use Rattle.walrus_ir.specs.Calls.{Full, Partial}
use Rattle.walrus_ir.proofs.Calls.{refused_instr, visited_instr}
use Rattle.walrus_traversals_mut.specs.Steps.{keeping}
use Rattle.walrus_traversals_mut.proofs.traversals_mut.visit_instr.Goals as goal

pub returns-in_err-visit_instr_mut-clause-err : goal.returns-in_err-visit_instr_mut-clause-err
returns-in_err-visit_instr_mut-clause-err g c =
    let p = err_from_is_err_and c.from_residual.result c.from_residual.ensures.1 in
    let e = c.in_err-visit_instr_mut.ensures.err in
    rw p.1 (refused_instr (keeping g.V.VisitorMut.step) _ _ _ _ e.0 e.1 e.2)

pub returns-clause-ok : goal.returns-clause-ok
returns-clause-ok g c =
    let e = c.in_ok-visit_instr_mut.ensures in
    on_ok_weaker c.visit_fields.result (λ k. visited_instr (keeping g.V.VisitorMut.step) _ _ _ _ _ Full _
    (e.ok, e.nesting) k) c.visit_fields.ensures.ok

pub returns-clause-err : goal.returns-clause-err
returns-clause-err g c =
    let e = c.in_ok-visit_instr_mut.ensures in
    on_err_weaker c.visit_fields.result (λ k. visited_instr (keeping g.V.VisitorMut.step) _ _ _ _ _ Partial _
    (e.ok, e.nesting) k) c.visit_fields.ensures.err
