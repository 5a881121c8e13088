use Rattle.std.proofs.Common.{◌≤◌, ◌<◌, ◌+◌, suc, List, ◌++◌, ◌∷◌, map, reverse, length, ap, sym, subst, ◌∙◌, arith}
use Rattle.walrus_functions.specs.Nesting.{children}
use Rattle.walrus_ir.specs.Calls.{at}
use Rattle.walrus_ir.specs.Hooks.{end_instr_seq}
use Rattle.ir_instr.specs.Sequence.{Sequence}
use Rattle.walrus_traversals.specs.declared.traversals.stack.Work.{Work}
use Rattle.walrus_traversals.specs.declared.traversals.stack.Work.TheVariants.{Enter, Resume}
use Rattle.walrus_traversals.proofs.Walks.Folds.{after_all}
use Rattle.walrus_traversals.proofs.Walks.Turns.{passed, closed, stopped, no_items, item_at, no_item}
use Rattle.walrus_traversals.proofs.traversals.resume.Goals as goal

pub returns-in-Err-clause-err : goal.returns-in-Err-clause-err
returns-in-Err-clause-err g c =
    let same = ap (λ (s : Sequence). s.instrs) (c.seq.view_is ∙ c.known_block-seq.ensures) in
    let lt : c.loop-place.place < length c.seq.inside.instrs.items = omega arith in
    let entry = item_at _ _ _ _ same lt c.index-entry.ensures in
    stopped g.V.Visitor.step c.args.func.now.body c.loop-place.invariant.0
    _ _ _ _ _ _ _ c.loop-place.invariant.1 c.index-entry.result.now entry c.in-Err.ensures.err

pub returns-in-Ok-clause-ok : goal.returns-in-Ok-clause-ok
returns-in-Ok-clause-ok g c =
    let same = ap (λ (s : Sequence). s.instrs) (c.seq.view_is ∙ c.known_block-seq.ensures) in
    let lt : c.loop-place.place < length c.seq.inside.instrs.items = omega arith in
    let entry = item_at _ _ _ _ same lt c.index-entry.ensures in
    let inside = children c.index-entry.result.now.0 in
    let added = Resume c.args.id (c.loop-place.place + 1) ∷ reverse (map Enter inside) in (
      c.loop-place.invariant.0,
      passed g.V.Visitor.step c.args.func.now.body c.loop-place.invariant.0 _ _ _ _ _ _ _
          c.loop-place.invariant.1
          c.leave_at.new.stack.items c.index-entry.result.now entry c.in_default.ensures.ok
          (c.in-Ok.ensures ∙ ap (λ (l : List Work). l ++ added) c.loop-place.invariant.2),
    )

pub returns-in-Err-leave_at-clause-err : goal.returns-in-Err-leave_at-clause-err
returns-in-Err-leave_at-clause-err g c =
    let same = ap (λ (s : Sequence). s.instrs) (c.seq.view_is ∙ c.known_block-seq.ensures) in
    let lt : c.loop-place.place < length c.seq.inside.instrs.items = omega arith in
    let entry = item_at _ _ _ _ same lt c.index-entry.ensures in
    stopped g.V.Visitor.step c.args.func.now.body c.loop-place.invariant.0 _ _ _ _
    _ _ _ c.loop-place.invariant.1 c.index-entry.result.now entry (after_all _ _ _ _ c.in_default.ensures.ok)

pub loop-place-preserved : goal.loop-place-preserved
loop-place-preserved g c =
    let same = ap (λ (s : Sequence). s.instrs) (c.seq.view_is ∙ c.known_block-seq.ensures) in
    let lt : c.loop-place.place < length c.seq.inside.instrs.items = omega arith in
    let entry = item_at _ _ _ _ same lt c.index-entry.ensures in
    let inside = children c.index-entry.result.now.0 in
    let none = no_items inside (sym c.if-has_children.false ∙ c.has_children.ensures) in
    let next = Resume c.args.id (c.loop-place.place + 1) in (
      suc c.loop-place.invariant.0,
      passed g.V.Visitor.step c.args.func.now.body c.loop-place.invariant.0
          _ _ _ _ _ _ _ c.loop-place.invariant.1 _ c.index-entry.result.now entry c.in_default.ensures.ok
          (sym (ap (λ cs. c.args.stack.now.items ++ next ∷ reverse (map Enter cs)) none)),
      c.loop-place.invariant.2,
    )

pub returns-in-Ok-end_instr_seq-clause-ok : goal.returns-in-Ok-end_instr_seq-clause-ok
returns-in-Ok-end_instr_seq-clause-ok g c =
    let same = ap (λ (s : Sequence). s.instrs) (c.seq.view_is ∙ c.known_block-seq.ensures) in
    let past : length c.seq.inside.instrs.items ≤ c.loop-place.place = omega arith in
    let F : Sequence → Type 0 = λ s.
    g.V.Visitor.step c.loop-place.visitor (at end_instr_seq s) c.end_instr_seq.new.self in
    closed g.V.Visitor.step c.args.func.now.body c.loop-place.invariant.0
    _ _ _ _ _ _ _ c.loop-place.invariant.1 c.loop-place.stack.items (no_item _ _ _ same past)
    (subst F c.known_block-seq.ensures c.in-Ok-end_instr_seq.ensures.ok) c.loop-place.invariant.2
