use Rattle.std.proofs.Common.{rules}
use Rattle.wasm_module.proofs.contents.data_segment.Goals as goal

pub returns : goal.returns
returns c = search (rules, c.data_table.ensures c.args.form)
