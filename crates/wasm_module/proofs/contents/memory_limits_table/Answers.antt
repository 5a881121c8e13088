use Rattle.std.proofs.Common.{refl}
use Rattle.wasm_module.specs.Contents.{memory_limits}
use Rattle.wasm_module.proofs.Tables.{is_table}
use Rattle.wasm_module.proofs.contents.memory_limits_table.Goals as goal

pub returns : goal.returns
returns c = is_table memory_limits _ refl refl
