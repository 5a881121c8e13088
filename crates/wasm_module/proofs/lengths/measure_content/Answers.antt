use Rattle.std.proofs.Common.{arith, sym}
use Rattle.std.proofs.lemmas.Result.{on_ok_weaker}
use Rattle.wasm_module.specs.Steps.Tables.{row_kinds}
use Rattle.wasm_module.proofs.NamedTypes.{row_some}
use Rattle.wasm_module.proofs.TypeLengths.{code_content, text_content, nameless_content}
use Rattle.wasm_module.proofs.lengths.measure_content.Goals as goal

pub returns-then-id-eq-CODE : goal.returns-then-id-eq-CODE
returns-then-id-eq-CODE c =
    on_ok_weaker c.measure_code.result
    (code_content c.args.id c.args.content.now c.args.lengths.now.items c.measure_code.new.lengths.items
    (omega (arith, c.if-id-eq-CODE.true))) c.measure_code.ensures

pub returns-in-NoInstruction : goal.returns-in-NoInstruction
returns-in-NoInstruction c =
    nameless_content c.args.id c.args.content.now c.args.lengths.now.items (sym c.in-NoInstruction.ensures)
    (λ e. omega (arith, e, c.if-id-eq-CODE.false))

pub returns-in_ok-from_immediates-in_default : goal.returns-in_ok-from_immediates-in_default
returns-in_ok-from_immediates-in_default c =
    let row = c.section_kinds.result in
    on_ok_weaker c.measure_text.result
    (text_content c.args.id (row_kinds row) c.in_ok-from_immediates-in_default.field-0 c.args.content.now
    c.args.lengths.now.items c.measure_text.new.lengths.items c.section_kinds.ensures
    (row_some row c.in_default.not-NoInstruction) c.in_ok-from_immediates-in_default.ensures) c.measure_text.ensures
