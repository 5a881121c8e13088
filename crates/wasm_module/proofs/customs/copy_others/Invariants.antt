use Rattle.wasm_module.proofs.RenamedModules.{Walks}
use Rattle.wasm_module.proofs.Descriptions.{Stripped}
use Rattle.wasm_module.proofs.customs.copy_others.Given as goal

abbrev pub invariant-loop-section : goal.invariant-loop-section
invariant-loop-section l =
    (goal.iterator-loop-section).can_next l.left × (goal.iterator-loop-section).is_finite l.left
    × Walks Stripped l.fn.bytes l.left l.out.items
