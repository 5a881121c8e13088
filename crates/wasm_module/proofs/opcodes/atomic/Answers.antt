use Rattle.std.proofs.Common.{rules}
use Rattle.wasm_module.proofs.opcodes.atomic.Goals as goal

pub returns : goal.returns
returns c = search (rules, c.atomics.ensures c.args.number)
