use Rattle.std.proofs.Common.{refl}
use Rattle.wasm_module.specs.Opcodes.{bulk_opcodes}
use Rattle.wasm_module.proofs.Tables.{is_table}
use Rattle.wasm_module.proofs.opcodes.bulk.Goals as goal

pub returns : goal.returns
returns c = is_table bulk_opcodes _ refl refl
