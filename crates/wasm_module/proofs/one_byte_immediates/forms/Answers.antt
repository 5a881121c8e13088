use Rattle.std.proofs.Common.{refl}
use Rattle.wasm_module.specs.Opcodes.{opcodes}
use Rattle.wasm_module.proofs.OneByteForms.{is_table_of_forms}
use Rattle.wasm_module.proofs.one_byte_immediates.forms.Goals as goal

pub returns : goal.returns
returns c = is_table_of_forms opcodes _ refl refl
