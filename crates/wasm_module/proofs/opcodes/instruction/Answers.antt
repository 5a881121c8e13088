use Rattle.std.proofs.Common.{rules}
use Rattle.wasm_module.proofs.opcodes.instruction.Goals as goal

pub returns : goal.returns
returns c = search (rules, c.one_byte.ensures c.args.opcode)
