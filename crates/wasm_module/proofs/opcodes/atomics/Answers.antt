use Rattle.std.proofs.Common.{refl}
use Rattle.wasm_module.specs.Opcodes.{atomic_opcodes}
use Rattle.wasm_module.proofs.Tables.{is_table}
use Rattle.wasm_module.proofs.opcodes.atomics.Goals as goal

pub returns : goal.returns
returns c = is_table atomic_opcodes _ refl refl
