use Rattle.wasm_module.proofs.NamedTypes.{Named}
use Rattle.wasm_module.proofs.named.named_types.Given as goal

abbrev pub invariant-loop-section : goal.invariant-loop-section
invariant-loop-section l =
    (goal.iterator-loop-section).can_next l.left × (goal.iterator-loop-section).is_finite l.left
    × Named l.initial.left l.left l.named.items
