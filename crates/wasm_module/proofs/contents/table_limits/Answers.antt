use Rattle.std.proofs.Common.{rules}
use Rattle.wasm_module.proofs.contents.table_limits.Goals as goal

pub returns : goal.returns
returns c = search (rules, c.table_limits_table.ensures c.args.flags)
