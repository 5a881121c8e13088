use Rattle.std.proofs.Common.{refl}
use Rattle.wasm_module.specs.Contents.{extern_types}
use Rattle.wasm_module.proofs.Tables.{is_table}
use Rattle.wasm_module.proofs.contents.extern_type_table.Goals as goal

pub returns : goal.returns
returns c = is_table extern_types _ refl refl
