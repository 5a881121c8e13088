use Rattle.std.proofs.Common.{◌++◌, ◌∙◌, ℕ, List, ap, sym, reverse}
use Rattle.std.proofs.lemmas.Result.{err_from_is_err_and}
use Rattle.ir_instr.specs.Sequence.{Sequence}
use Rattle.walrus_traversals_mut.specs.Steps.{keeping}
use Rattle.walrus_traversals_mut.proofs.Keeping.{last_first_kept}
use Rattle.walrus_traversals_mut.proofs.Sequences.{refused_sequence, begun_in_type, begun_in_instrs, begun_before_end, whole_sequence}
use Rattle.walrus_traversals_mut.proofs.traversals_mut.visit_seq.Goals as goal

pub returns-in-Err-clause-err : goal.returns-in-Err-clause-err
returns-in-Err-clause-err g c =
    let e = c.in-Err.ensures.err in refused_sequence (keeping g.V.VisitorMut.step) _ _ _ _ e.0 e.1

pub returns-in-Err-visit_type-clause-err : goal.returns-in-Err-visit_type-clause-err
returns-in-Err-visit_type-clause-err g c =
    let a = rw (← c.seq.view_is) at c.in_default.ensures.ok in
    let b = rw (← c.seq.view_is) at c.in_default.ensures.nesting in
    begun_in_type (keeping g.V.VisitorMut.step) _ _ _ _ _ _ (a, b) c.in-Err-visit_type.ensures.err

pub returns-in_err-visit_instrs-clause-err : goal.returns-in_err-visit_instrs-clause-err
returns-in_err-visit_instrs-clause-err g c =
    let a = rw (← c.seq.view_is) at c.in_default.ensures.ok in
    let b = rw (← c.seq.view_is) at c.in_default.ensures.nesting in
    let p = err_from_is_err_and c.from_residual.result c.from_residual.ensures.1 in
    rw p.1 (begun_in_instrs (keeping g.V.VisitorMut.step) _ _ _ _ _ _ _ _ (a, b)
    c.in_default-visit_type.ensures.ok c.in_err-visit_instrs.ensures.err)

pub returns-in-Err-end_instr_seq_mut-clause-err : goal.returns-in-Err-end_instr_seq_mut-clause-err
returns-in-Err-end_instr_seq_mut-clause-err g c =
    let a = rw (← c.seq.view_is) at c.in_default.ensures.ok in
    let b = rw (← c.seq.view_is) at c.in_default.ensures.nesting in
    begun_before_end (keeping g.V.VisitorMut.step) _ _ _ _ _ _ _ _ _ _ (a, b)
    c.in_default-visit_type.ensures.ok c.in_ok-visit_instrs.ensures.ok c.in-Err-end_instr_seq_mut.ensures.err

pub returns-clause-ok : goal.returns-clause-ok
returns-clause-ok g c =
    let a = rw (← c.seq.view_is) at c.in_default.ensures.ok in
    let b = rw (← c.seq.view_is) at c.in_default.ensures.nesting in
    let last = c.in_default-end_instr_seq_mut.ensures in
    whole_sequence (keeping g.V.VisitorMut.step) _ _ _ _ _ _ _ _ _ _ (a, b)
    c.in_default-visit_type.ensures.ok c.in_ok-visit_instrs.ensures.ok (last.ok, last.nesting)

pub returns-clause-pushed : goal.returns-clause-pushed
returns-clause-pushed g c =
    let s : Sequence = record {
      id = c.seq.inside.id;
      ty = c.visit_type.new.ty;
      instrs = c.visit_instrs.new.instrs.items;
      end = c.seq.inside.end;
    } in
    c.in_ok-visit_instrs.ensures.pushed ∙ ap (λ (l : List ℕ). l ++ reverse c.args.stack.now.items)
    (sym (last_first_kept s c.end_instr_seq_mut.new.seq c.in_default-end_instr_seq_mut.ensures.nesting))
