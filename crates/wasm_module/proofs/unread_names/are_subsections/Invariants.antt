use Rattle.std.proofs.Common.{length}
use Rattle.wasm_module.proofs.UnreadNames.{AreReadUpTo}
use Rattle.wasm_module.proofs.unread_names.are_subsections.Given as goal

abbrev pub invariant-loop-rest : goal.invariant-loop-rest
invariant-loop-rest l = AreReadUpTo l.fn.count l.fn.texts l.rest

abbrev pub decreases-loop-rest : goal.decreases-loop-rest
decreases-loop-rest l = length l.rest
