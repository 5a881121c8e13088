use Rattle.wasm_module.proofs.ModuleLengths.{Passed}
use Rattle.wasm_module.proofs.UnreadNames.{AreNoUnread}
use Rattle.wasm_module.proofs.unread_names.find_unread_names.Given as goal

abbrev pub invariant-loop-section : goal.invariant-loop-section
invariant-loop-section l =
    (goal.iterator-loop-section).can_next l.left × (goal.iterator-loop-section).is_finite l.left
    × Passed (AreNoUnread l.fn.count) l.initial.left l.left
