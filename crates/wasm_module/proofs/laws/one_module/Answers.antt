use Rattle.wasm_module.proofs.TreesOfModules.{renamed_once}
use Rattle.wasm_module.proofs.laws.one_module.Goals as goal

pub returns : goal.returns
returns c = renamed_once
