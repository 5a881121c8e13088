use Rattle.wasm_module.specs.Lengths.{IsNot}
use Rattle.wasm_module.proofs.ModuleLengths.{Passed}
use Rattle.wasm_module.proofs.lengths.content_of.Given as goal

abbrev pub invariant-loop-section : goal.invariant-loop-section
invariant-loop-section l =
    (goal.iterator-loop-section).can_next l.left × (goal.iterator-loop-section).is_finite l.left
    × Passed (IsNot l.fn.id) l.initial.left l.left
