use Rattle.std.proofs.Common.{refl}
use Rattle.wasm_module.specs.Contents.{data_forms}
use Rattle.wasm_module.proofs.Tables.{is_table}
use Rattle.wasm_module.proofs.contents.data_table.Goals as goal

pub returns : goal.returns
returns c = is_table data_forms _ refl refl
