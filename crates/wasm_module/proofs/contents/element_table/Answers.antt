use Rattle.std.proofs.Common.{refl}
use Rattle.wasm_module.specs.Contents.{element_forms}
use Rattle.wasm_module.proofs.Tables.{is_table}
use Rattle.wasm_module.proofs.contents.element_table.Goals as goal

pub returns : goal.returns
returns c = is_table element_forms _ refl refl
