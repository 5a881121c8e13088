use Rattle.std.proofs.Common.{refl}
use Rattle.wasm_module.specs.Opcodes.{vector_opcodes}
use Rattle.wasm_module.proofs.Tables.{is_table}
use Rattle.wasm_module.proofs.opcodes.vectors.Goals as goal

pub returns : goal.returns
returns c = is_table vector_opcodes _ refl refl
