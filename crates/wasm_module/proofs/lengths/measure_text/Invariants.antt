use Rattle.std.proofs.Common.{length}
use Rattle.wasm_module.proofs.TypeLengths.{Measures}
use Rattle.wasm_module.proofs.lengths.measure_text.Given as goal

abbrev pub invariant-loop-stack : goal.invariant-loop-stack
invariant-loop-stack l =
    Measures l.fn.kinds l.fn.bytes l.rest l.stack l.fn.lengths.items l.lengths.items

abbrev pub decreases-loop-stack : goal.decreases-loop-stack
decreases-loop-stack l = length l.rest
