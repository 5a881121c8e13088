use Rattle.std.proofs.Common.{rules}
use Rattle.wasm_module.proofs.contents.extern_type.Goals as goal

pub returns : goal.returns
returns c = search (rules, c.extern_type_table.ensures c.args.byte)
