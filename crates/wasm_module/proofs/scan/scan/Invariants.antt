use Rattle.std.proofs.Common.{length}
use Rattle.wasm_module.proofs.Scanning.{State}
use Rattle.wasm_module.proofs.scan.scan.Given as goal

abbrev pub invariant-loop-stack : goal.invariant-loop-stack
invariant-loop-stack l = State l.fn.kinds l.fn.input.now l.input.now l.stack l.named.items

abbrev pub decreases-loop-stack : goal.decreases-loop-stack
decreases-loop-stack l = length l.input.now
