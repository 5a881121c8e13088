use Rattle.std.proofs.Common.{refl}
use Rattle.wasm_module.specs.Opcodes.{opcodes}
use Rattle.wasm_module.proofs.Tables.{is_table}
use Rattle.wasm_module.proofs.opcodes.one_byte.Goals as goal

pub returns : goal.returns
returns c = is_table opcodes _ refl refl
