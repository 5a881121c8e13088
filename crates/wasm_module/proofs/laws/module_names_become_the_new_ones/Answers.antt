use Rattle.wasm_module.proofs.RenamedNames.{module_follows}
use Rattle.wasm_module.proofs.laws.module_names_become_the_new_ones.Goals as goal

pub returns : goal.returns
returns c = λ types new_indices widths. module_follows new_indices widths types
