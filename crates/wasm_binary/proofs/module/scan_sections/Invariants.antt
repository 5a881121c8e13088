use Rattle.std.proofs.Common.{length}
use Rattle.wasm_binary.proofs.Modules.Framing.{State}
use Rattle.wasm_binary.proofs.module.scan_sections.Given as goal

abbrev pub invariant-loop-rest : goal.invariant-loop-rest
invariant-loop-rest l = State (λ r. r.start) (λ r. r.end) l.bytes l.rest l.last l.found

abbrev pub decreases-loop-rest : goal.decreases-loop-rest
decreases-loop-rest l = length l.rest
