use Rattle.std.proofs.Common.{List, subst}
use Rattle.std.proofs.lemmas.Result.{err_from_is_err_and}
use Rattle.wasm_module.specs.declared.kind.Kind.{Kind}
use Rattle.wasm_module.specs.Steps.Scans.{IsScanned, IsRefused}
use Rattle.wasm_module.proofs.WholeTexts.{names_no, left_over, not_empty}
use Rattle.wasm_module.proofs.texts.text_types.Goals as goal

pub returns-in_err-types-clause-refused : goal.returns-in_err-types-clause-refused
returns-in_err-types-clause-refused c =
    let p = err_from_is_err_and c.from_residual-in_err-types.result c.from_residual-in_err-types.ensures.1 in
    rw (p.1, p.2) (names_no _ c.args.bytes.now c.in_err-types.field-0.0
    (subst (λ (u : List Kind). IsRefused u c.args.bytes.now c.in_err-types.field-0.0) c.in_ok-kinds.ensures
    c.in_err-types.ensures.refused))

pub returns-then-not-is_empty-clause-refused : goal.returns-then-not-is_empty-clause-refused
returns-then-not-is_empty-clause-refused c =
    left_over _ c.args.bytes.now c.scan.new.input.now c.in_ok-types.types.items
    (subst (λ (u : List Kind). IsScanned u c.args.bytes.now c.scan.new.input.now c.in_ok-types.types.items)
    c.in_ok-kinds.ensures c.in_ok-types.ensures.found)
    (not_empty c.scan.new.input.now c.if-not-is_empty.ensures)
