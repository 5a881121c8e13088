use Rattle.std.proofs.Common.{rules}
use Rattle.wasm_module.proofs.opcodes.aggregate.Goals as goal

pub returns : goal.returns
returns c = search (rules, c.aggregates.ensures c.args.number)
