use Rattle.std.proofs.lemmas.Result.{err_from_is_err_and}
use Rattle.wasm_module.proofs.CodeSections.{code_is, code_countless, code_malformed, code_left_over}
use Rattle.wasm_module.proofs.WholeTexts.{empty, not_empty}
use Rattle.wasm_module.proofs.code.code_types.Goals as goal

pub returns-in_default-clause-refused : goal.returns-in_default-clause-refused
returns-in_default-clause-refused c =
    code_countless c.args.content.now c.read_u32.new.input.now c.in_default.ensures

pub returns-in_err-types-clause-refused : goal.returns-in_err-types-clause-refused
returns-in_err-types-clause-refused c =
    let p = err_from_is_err_and c.from_residual.result c.from_residual.ensures.1 in
    rw (p.1, p.2) (code_malformed c.args.content.now c.in-Some.count c.read_u32.new.input.now
    c.in_err-types.field-0.0 c.in-Some.ensures c.in_err-types.ensures.refused)

pub returns-then-not-is_empty-clause-refused : goal.returns-then-not-is_empty-clause-refused
returns-then-not-is_empty-clause-refused c =
    code_left_over c.args.content.now c.in-Some.count c.read_u32.new.input.now c.take_bodies.new.input.now
    c.in_ok-types.types.items c.in-Some.ensures c.in_ok-types.ensures.found
    (not_empty c.take_bodies.new.input.now c.if-not-is_empty.ensures)

pub returns-clause-found : goal.returns-clause-found
returns-clause-found c =
    code_is c.args.content.now c.in-Some.count c.read_u32.new.input.now c.take_bodies.new.input.now
    c.in_ok-types.types.items c.in-Some.ensures c.in_ok-types.ensures.found
    (empty c.take_bodies.new.input.now c.if-not-is_empty.ensures)
