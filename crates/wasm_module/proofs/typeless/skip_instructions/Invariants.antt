use Rattle.std.proofs.Common.{length}
use Rattle.wasm_module.specs.Steps.Scans.{PassesInstructions}
use Rattle.wasm_module.proofs.typeless.skip_instructions.Given as goal

abbrev pub invariant-loop-rest : goal.invariant-loop-rest
invariant-loop-rest l = PassesInstructions l.fn.input.now l.input.now

abbrev pub decreases-loop-rest : goal.decreases-loop-rest
decreases-loop-rest l = length l.input.now
