use Rattle.std.proofs.Common.{refl}
use Rattle.wasm_module.specs.Opcodes.{aggregate_opcodes}
use Rattle.wasm_module.proofs.Tables.{is_table}
use Rattle.wasm_module.proofs.opcodes.aggregates.Goals as goal

pub returns : goal.returns
returns c = is_table aggregate_opcodes _ refl refl
