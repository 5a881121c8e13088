use Rattle.std.proofs.Common.{◌∷◌, subst}
use Rattle.std.specs.List.{FoldsTo}
use Rattle.std.proofs.lemmas.Result.{on_ok_weaker, on_err_weaker}
use Rattle.walrus_ir.specs.Calls.{at, reported}
use Rattle.walrus_ir.specs.Fields.{type_fields}
use Rattle.walrus_ir.specs.Hooks.{start_instr_seq}
use Rattle.ir_instr.specs.Sequence.{Sequence}
use Rattle.walrus_traversals.proofs.Walks.Turns.{goes_first, stops_first}
use Rattle.walrus_traversals.proofs.traversals.enter.Goals as goal

pub returns-clause-ok : goal.returns-clause-ok
returns-clause-ok g c =
    let F : Sequence → Type 0 = λ s. FoldsTo g.V.Visitor.step c.args.visitor.now
    (at start_instr_seq s ∷ reported (type_fields s.ty)) c.report_start.new.visitor in
    let start = subst F c.known_block.ensures c.in_default.ensures.ok in
    on_ok_weaker c.resume.result
    (λ k. goes_first g.V.Visitor.step c.args.func.now.body _ _ _ c.args.stack.now.items _ c.args.id start k)
    c.resume.ensures.ok

pub returns-clause-err : goal.returns-clause-err
returns-clause-err g c =
    let F : Sequence → Type 0 = λ s. FoldsTo g.V.Visitor.step c.args.visitor.now
    (at start_instr_seq s ∷ reported (type_fields s.ty)) c.report_start.new.visitor in
    let start = subst F c.known_block.ensures c.in_default.ensures.ok in
    on_err_weaker c.resume.result
    (λ k. stops_first g.V.Visitor.step c.args.func.now.body _ _ _ c.args.stack.now.items c.args.id start k)
    c.resume.ensures.err
