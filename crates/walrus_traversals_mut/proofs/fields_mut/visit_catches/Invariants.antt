use Rattle.std.proofs.Common.{ℕ}
use Rattle.ir_instr.specs.declared.exceptions.TryTableCatch.{TryTableCatch}
use Rattle.walrus_ir.specs.Fields.{clause_fields}
use Rattle.walrus_ir.proofs.Calls.{Done}
use Rattle.walrus_traversals_mut.specs.Steps.{keeping}
use Rattle.walrus_traversals_mut.proofs.fields_mut.visit_catches.Given as goal

abbrev pub invariant-loop-i : goal.invariant-loop-i
invariant-loop-i g l =
    Done {K = ℕ} (keeping g.V.VisitorMut.step) clause_fields
    (λ (x : TryTableCatch). 0) l.initial.visitor l.initial.clauses l.visitor l.clauses l.i
