use Rattle.std.proofs.Common.{◌≤◌, length}
use Rattle.wasm_binary.specs.Steps.Framing.{HasPassed}
use Rattle.wasm_binary.proofs.module.around.sections_at.Given as goal

abbrev pub invariant-loop-id : goal.invariant-loop-id
invariant-loop-id l = HasPassed l.bytes l.rest l.last × (l.left ≤ length l.rest)

abbrev pub decreases-loop-id : goal.decreases-loop-id
decreases-loop-id l = length l.rest
