use Rattle.std.proofs.Common.{◌≡◌, None, arith, sym}
use Rattle.std.proofs.lemmas.Result.{IfOk-weaker, IfErr-weaker}
use Rattle.wasm_module.specs.NamedTypes.{code_id, nameless}
use Rattle.wasm_module.specs.Contents.{section_kinds}
use Rattle.wasm_module.specs.Steps.Tables.{row_kinds}
use Rattle.wasm_module.proofs.NamedTypes.{content_code, no_content_code, row_some, content_texts, no_content_texts}
use Rattle.wasm_module.proofs.named.content_types.Goals as goal

pub returns-then-id-eq-CODE-clause-found : goal.returns-then-id-eq-CODE-clause-found
returns-then-id-eq-CODE-clause-found c =
    IfOk-weaker c.code_types.result _ _
    (λ types h. content_code c.args.id c.args.content.now types.items (omega (arith, c.if-id-eq-CODE.true)) h)
    c.code_types.ensures.found

pub returns-then-id-eq-CODE-clause-refused : goal.returns-then-id-eq-CODE-clause-refused
returns-then-id-eq-CODE-clause-refused c =
    IfErr-weaker c.code_types.result _ _
    (λ e h. no_content_code c.args.id c.args.content.now e (omega (arith, c.if-id-eq-CODE.true)) h)
    c.code_types.ensures.refused

pub returns-in-NoInstruction-clause-found : goal.returns-in-NoInstruction-clause-found
returns-in-NoInstruction-clause-found c =
    rw c.new.ensures.items (nameless c.args.id c.args.content.now (sym c.in-NoInstruction.ensures)
    (λ e. omega (arith, e, c.if-id-eq-CODE.false)))

pub returns-in_default : goal.returns-in_default
returns-in_default c =
    let row = c.section_kinds.result in
    let is : row_kinds row ≡ section_kinds c.args.id = c.section_kinds.ensures in
    let some : row_kinds row ≡ None → ⊥ = row_some row c.in_default.not-NoInstruction in
    let other : c.args.id ≡ code_id → ⊥ = λ e. omega (arith, e, c.if-id-eq-CODE.false) in
    record {
      found =
          IfOk-weaker c.text_types.result _ _
          (λ types h. content_texts c.args.id (row_kinds row) c.args.content.now types.items is some h)
          c.text_types.ensures.found;
      refused =
          IfErr-weaker c.text_types.result _ _
          (λ e h. no_content_texts c.args.id (row_kinds row) c.args.content.now e is some other h)
          c.text_types.ensures.refused;
    }
