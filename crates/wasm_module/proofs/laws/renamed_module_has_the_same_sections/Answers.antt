use Rattle.wasm_module.proofs.ModuleLaws.{have_same_ids}
use Rattle.wasm_module.proofs.laws.renamed_module_has_the_same_sections.Goals as goal

pub returns : goal.returns
returns c = have_same_ids
