use Rattle.std.proofs.Common.{◌≡◌, ◌++◌, ℕ, take, reverse, flat_map}
use Rattle.ir_instr.specs.declared.instr.Instr.{Instr}
use Rattle.walrus_functions.specs.Nesting.{children}
use Rattle.walrus_ir.specs.Fields.{instr_calls}
use Rattle.walrus_ir.proofs.Calls.{Done}
use Rattle.walrus_traversals_mut.specs.Steps.{keeping}
use Rattle.walrus_traversals_mut.proofs.traversals_mut.visit_instrs.Given as goal

abbrev pub invariant-loop-i : goal.invariant-loop-i
invariant-loop-i g l =
    Done {K = ℕ} (keeping g.V.VisitorMut.step) instr_calls (λ (x : Instr × ℕ). 0)
    l.initial.visitor l.initial.instrs.items l.visitor l.instrs.items l.i × (reverse l.stack.items ≡ flat_map
    (λ (x : Instr × ℕ). children x.0) (reverse (take l.i l.instrs.items)) ++ reverse l.initial.stack.items)
