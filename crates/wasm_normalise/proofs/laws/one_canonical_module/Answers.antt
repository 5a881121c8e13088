use Rattle.wasm_normalise.proofs.OneCanonicalModule.{module_once}
use Rattle.wasm_normalise.proofs.laws.one_canonical_module.Goals as goal

pub returns : goal.returns
returns c = module_once
