use Rattle.std.proofs.Common.{length}
use Rattle.wasm_module.specs.Renaming.{least_width}
use Rattle.wasm_module.proofs.Rewriting.{IsWritten}
use Rattle.wasm_module.proofs.renaming.rename.Given as goal

abbrev pub invariant-loop-stack : goal.invariant-loop-stack
invariant-loop-stack l =
    IsWritten l.fn.new_indices (least_width l.fn.widths) l.fn.kinds l.fn.input.now l.input.now l.unwritten
    l.stack l.out.items

abbrev pub decreases-loop-stack : goal.decreases-loop-stack
decreases-loop-stack l = length l.input.now
