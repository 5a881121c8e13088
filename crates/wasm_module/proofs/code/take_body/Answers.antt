use Rattle.std.proofs.Common.{arith}
use Rattle.std.proofs.lemmas.Result.{err_from_is_err_and}
use Rattle.wasm_module.proofs.CodeSections.{body_taken, body_sizeless, body_cut_off, body_malformed}
use Rattle.wasm_module.proofs.code.take_body.Goals as goal

pub returns-in_default-clause-refused : goal.returns-in_default-clause-refused
returns-in_default-clause-refused c =
    body_sizeless c.args.input.now.now c.read_u32.new.input.now c.in_default.ensures

pub returns-then-size-behind-clause-refused : goal.returns-then-size-behind-clause-refused
returns-then-size-behind-clause-refused c =
    body_cut_off c.args.input.now.now c.in-Some.size c.read_u32.new.input.now c.in-Some.ensures
    (omega (arith, c.if-size-behind.true))

pub returns-in_err-types-clause-refused : goal.returns-in_err-types-clause-refused
returns-in_err-types-clause-refused c =
    let p = err_from_is_err_and c.from_residual.result c.from_residual.ensures.1 in
    rw (p.1, p.2) (body_malformed c.args.input.now.now c.in-Some.size c.read_u32.new.input.now
    c.split_at.result.0.now c.in_err-types.field-0.0 c.in-Some.ensures c.split_at.ensures.front
    c.in_err-types.ensures.refused)

pub returns-clause-found : goal.returns-clause-found
returns-clause-found c =
    body_taken c.args.input.now.now c.in-Some.size c.read_u32.new.input.now c.split_at.result.0.now
    c.split_at.result.1.now c.in_ok-types.types.items c.in-Some.ensures
    (omega (arith, c.if-size-behind.false)) c.split_at.ensures.front c.split_at.ensures.back
    c.in_ok-types.ensures.found
