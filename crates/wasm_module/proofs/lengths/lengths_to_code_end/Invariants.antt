use Rattle.wasm_module.proofs.ModuleLengths.{MeasuresSections}
use Rattle.wasm_module.proofs.lengths.lengths_to_code_end.Given as goal

abbrev pub invariant-loop-section : goal.invariant-loop-section
invariant-loop-section l =
    (goal.iterator-loop-section).can_next l.left × (goal.iterator-loop-section).is_finite l.left
    × MeasuresSections l.initial.left l.left l.lengths.items
