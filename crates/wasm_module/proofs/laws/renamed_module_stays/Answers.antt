use Rattle.wasm_module.proofs.TreesOfModules.{module_stays}
use Rattle.wasm_module.proofs.laws.renamed_module_stays.Goals as goal

pub returns : goal.returns
returns c = λ types first again widths bytes new own few.
    module_stays first again own few widths types bytes new
