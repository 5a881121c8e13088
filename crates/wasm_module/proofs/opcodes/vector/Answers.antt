use Rattle.std.proofs.Common.{rules}
use Rattle.wasm_module.proofs.opcodes.vector.Goals as goal

pub returns : goal.returns
returns c = search (rules, c.vectors.ensures c.args.number)
