use Rattle.std.proofs.Common.{rules}
use Rattle.wasm_module.proofs.opcodes.bulk_instruction.Goals as goal

pub returns : goal.returns
returns c = search (rules, c.bulk.ensures c.args.number)
