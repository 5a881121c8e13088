use Rattle.wasm_module.specs.Outdated.{Fits}
use Rattle.wasm_module.specs.Steps.Outdated.{AllStay}
use Rattle.wasm_module.proofs.ModuleLengths.{Passed}
use Rattle.wasm_module.proofs.outdated.first_outdated.Given as goal

abbrev pub invariant-loop-section : goal.invariant-loop-section
invariant-loop-section l =
    (goal.iterator-loop-section).can_next l.left × (goal.iterator-loop-section).is_finite l.left
    × Passed (Fits l.fn.bytes l.fn.new) l.initial.left l.left × AllStay l.fn.bytes l.fn.new l.fitting.items
