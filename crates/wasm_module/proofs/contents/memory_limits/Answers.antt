use Rattle.std.proofs.Common.{rules}
use Rattle.wasm_module.proofs.contents.memory_limits.Goals as goal

pub returns : goal.returns
returns c = search (rules, c.memory_limits_table.ensures c.args.flags)
