use Rattle.wasm_module.proofs.RenamedModules.{IsBegun}
use Rattle.wasm_module.proofs.renamed_module.rename_module.Given as goal

abbrev pub invariant-loop-section : goal.invariant-loop-section
invariant-loop-section l =
    (goal.iterator-loop-section).can_next l.left × (goal.iterator-loop-section).is_finite l.left
    × IsBegun l.fn.types l.fn.new_indices l.fn.widths l.fn.bytes l.initial.left l.left l.out.items
