use Rattle.wasm_binary.proofs.Sections.{one_section}
use Rattle.wasm_binary.proofs.laws.one_section.Goals as goal

pub returns : goal.returns
returns c = one_section
