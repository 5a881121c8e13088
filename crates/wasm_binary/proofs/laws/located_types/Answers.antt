use Rattle.wasm_binary.proofs.Modules.Uniqueness.{located_types}
use Rattle.wasm_binary.proofs.laws.located_types.Goals as goal

pub returns : goal.returns
returns c = located_types
