use Rattle.std.proofs.Common.{rules}
use Rattle.wasm_module.proofs.contents.element_segment.Goals as goal

pub returns : goal.returns
returns c = search (rules, c.element_table.ensures c.args.form)
