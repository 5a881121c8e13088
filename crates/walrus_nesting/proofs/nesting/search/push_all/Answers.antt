use Rattle.std.proofs.Common.{◌≡◌, ◌-◌, ℕ, sym, subst, arith}
use Rattle.ir_instr.specs.declared.instr.Instr.{Instr}
use Rattle.walrus_functions.specs.Nesting.{children}
use Rattle.walrus_nesting.specs.Pushing.{Pushes}
use Rattle.walrus_nesting.specs.declared.nesting.search.Work.TheVariants.{Enter}
use Rattle.walrus_nesting.proofs.Pushed.{pushes_more}
use Rattle.walrus_nesting.proofs.nesting.search.push_all.Goals as goal

pub loop-i-preserved : goal.loop-i-preserved
loop-i-preserved c =
    let within = c.loop-i.invariant.within in
    let more = c.loop-i-test.true in
    let F : Instr × ℕ → Type 0 = λ x. Pushes (λ id w. w ≡ Enter id) (children x.0) c.loop-i.work.items
    c.push_children.new.stack.items in
    record {
      within = omega arith;
      pushed = pushes_more (λ id w. w ≡ Enter id) (λ (x : Instr × ℕ). children x.0) c.args.instrs.now
          c.index-instrs-i.result (c.loop-i.i - 1) c.loop-i.i _ _ _ (omega arith) (omega arith)
          c.index-instrs-i.is
          c.loop-i.invariant.pushed (subst F (sym c.index-instrs-i.is) c.in_ok-push_children.ensures.pushed);
    }
