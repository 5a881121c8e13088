use Rattle.wasm_binary.proofs.Modules.Uniqueness.{one_module}
use Rattle.wasm_binary.proofs.laws.one_module.Goals as goal

pub returns : goal.returns
returns c = one_module
