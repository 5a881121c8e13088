use Rattle.std.proofs.Common.{length}
use Rattle.wasm_module.specs.Steps.Scans.{PassesTokens}
use Rattle.wasm_module.proofs.scan.next_type.Given as goal

abbrev pub invariant-loop-kind : goal.invariant-loop-kind
invariant-loop-kind l = PassesTokens l.fn.stack l.stack l.fn.input.now l.input.now

abbrev pub decreases-loop-kind : goal.decreases-loop-kind
decreases-loop-kind l = length l.input.now
