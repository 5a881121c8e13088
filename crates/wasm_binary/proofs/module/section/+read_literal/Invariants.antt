use Rattle.std.proofs.Common.{length}
use Rattle.wasm_binary.proofs.module.section.+read_literal.Given as goal

abbrev pub decreases-read_literal : goal.decreases-read_literal
decreases-read_literal l = length l.text.now
