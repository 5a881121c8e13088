use Rattle.std.proofs.Common.{refl}
use Rattle.wasm_module.specs.Contents.{section_rows}
use Rattle.wasm_module.proofs.Tables.{is_table}
use Rattle.wasm_module.proofs.contents.section_table.Goals as goal

pub returns : goal.returns
returns c = is_table section_rows _ refl refl
