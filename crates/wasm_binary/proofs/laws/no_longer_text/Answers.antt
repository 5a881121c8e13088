use Rattle.wasm_binary.proofs.Sections.{no_longer_text}
use Rattle.wasm_binary.proofs.laws.no_longer_text.Goals as goal

pub returns : goal.returns
returns c = no_longer_text
