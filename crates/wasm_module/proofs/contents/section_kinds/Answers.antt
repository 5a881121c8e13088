use Rattle.std.proofs.Common.{rules}
use Rattle.wasm_module.proofs.contents.section_kinds.Goals as goal

pub returns : goal.returns
returns c = search (rules, c.section_table.ensures c.args.id)
