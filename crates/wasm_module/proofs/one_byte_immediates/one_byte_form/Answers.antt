use Rattle.std.proofs.Common.{rules}
use Rattle.wasm_module.proofs.one_byte_immediates.one_byte_form.Goals as goal

pub returns : goal.returns
returns c = search (rules, c.forms.ensures c.args.opcode)
