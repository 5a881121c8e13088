use Rattle.wasm_module.proofs.OneByteForms.{short_passed}
use Rattle.wasm_module.proofs.one_byte_immediates.behind_one_byte_immediates.Goals as goal

pub returns-clause-passed : goal.returns-clause-passed
returns-clause-passed c =
    short_passed c.args.bytes.now c.one_byte_form-form.result c.one_byte_length-length.result c.from.result
    c.from-else-from-first_limit.result c.first_limit.result c.second_limit.result
    c.in-len3-up.len_at_least c.one_byte_form-form.ensures c.one_byte_length-length.ensures c.from.ensures
    c.first_limit.ensures c.if-from-first_limit.false c.from-else-from-first_limit.ensures
    c.second_limit.ensures c.if-from-second_limit.false
