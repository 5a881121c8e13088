use Rattle.wasm_binary.proofs.Sections.{one_first_bad_byte}
use Rattle.wasm_binary.proofs.laws.one_first_bad_byte.Goals as goal

pub returns : goal.returns
returns c = one_first_bad_byte
