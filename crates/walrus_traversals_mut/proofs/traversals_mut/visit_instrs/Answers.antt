use Rattle.std.proofs.Common.{◌≡◌, ◌<◌, ℕ, length, arith, refl}
use Rattle.ir_instr.specs.declared.instr.Instr.{Instr}
use Rattle.walrus_functions.specs.Nesting.{children}
use Rattle.walrus_ir.specs.Fields.{instr_calls}
use Rattle.walrus_ir.proofs.Calls.{instr_whole, done_more, done_begun, done_all}
use Rattle.walrus_nesting.proofs.Pushed.{pushed_ids}
use Rattle.walrus_traversals_mut.specs.Steps.{keeping}
use Rattle.walrus_traversals_mut.proofs.Sequences.{full_partial}
use Rattle.walrus_traversals_mut.proofs.Stacks.{pushed_set, pushed_all}
use Rattle.walrus_traversals_mut.proofs.traversals_mut.visit_instrs.Goals as goal

pub returns-in-Err-clause-err : goal.returns-in-Err-clause-err
returns-in-Err-clause-err g c =
    let inv = c.loop-i.invariant.0 in
    let lt : c.loop-i.i < length c.loop-i.instrs.items = omega (arith, inv.size) in
    done_begun _ _ _ _ _ _ _ _ _ _ _ instr_whole inv lt c.index_mut.ensures.value c.in-Err.ensures.err

pub returns-in-Err-push_children-clause-err : goal.returns-in-Err-push_children-clause-err
returns-in-Err-push_children-clause-err g c =
    let inv = c.loop-i.invariant.0 in
    let lt : c.loop-i.i < length c.loop-i.instrs.items = omega (arith, inv.size) in
    done_begun _ _ _ _ _ _ _ _ _ _ _ instr_whole inv lt c.index_mut.ensures.value
    (full_partial (keeping g.V.VisitorMut.step) (instr_calls c.index_mut.result.now) c.loop-i.visitor
    c.visit_instr.new.visitor (c.visit_instr.new.instr, c.visit_instr.new.loc) c.in_default.ensures.ok)

pub loop-i-preserved : goal.loop-i-preserved
loop-i-preserved g c =
    let inv = c.loop-i.invariant.0 in
    let lt : c.loop-i.i < length c.loop-i.instrs.items = omega (arith, inv.size) in (
      done_more _ _ _ _ _ _ _ _ _ _ _ inv lt c.index_mut.ensures.value c.in_default.ensures.ok refl,
      pushed_set (λ (x : Instr × ℕ). children x.0) c.loop-i.instrs.items
          (c.visit_instr.new.instr, c.visit_instr.new.loc) c.loop-i.i _ _ _ lt c.loop-i.invariant.1
          (pushed_ids (children c.visit_instr.new.instr) _ _ c.in_default-push_children.ensures.pushed),
    )

pub returns-clause-ok : goal.returns-clause-ok
returns-clause-ok g c =
    let inv = c.loop-i.invariant.0 in
    let e : c.loop-i.i ≡ length c.loop-i.instrs.items = omega (arith, inv.size) in
    done_all _ _ _ _ _ _ _ _ inv e

pub returns-clause-pushed : goal.returns-clause-pushed
returns-clause-pushed g c =
    let inv = c.loop-i.invariant.0 in
    let e : c.loop-i.i ≡ length c.loop-i.instrs.items = omega (arith, inv.size) in
    pushed_all (λ (x : Instr × ℕ). children x.0) c.loop-i.instrs.items c.loop-i.i _ _ e c.loop-i.invariant.1
