use Rattle.wasm_module.proofs.ModuleLengths.{Passed}
use Rattle.wasm_module.proofs.UnknownSections.{IsNoUnknown}
use Rattle.wasm_module.proofs.unknown_customs.find_unknown_custom.Given as goal

abbrev pub invariant-loop-section : goal.invariant-loop-section
invariant-loop-section l =
    (goal.iterator-loop-section).can_next l.left × (goal.iterator-loop-section).is_finite l.left
    × Passed (IsNoUnknown l.fn.allowed) l.initial.left l.left
