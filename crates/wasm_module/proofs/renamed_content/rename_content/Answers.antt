use Rattle.std.proofs.Common.{◌≡◌, None, arith, sym}
use Rattle.std.proofs.lemmas.Result.{IfOk-weaker}
use Rattle.wasm_module.specs.declared.scan.ScanError.TheVariants as scan
use Rattle.wasm_module.specs.Contents.{section_kinds}
use Rattle.wasm_module.specs.NamedTypes.{code_id}
use Rattle.wasm_module.specs.RenamedSections.{RenamesTexts, RenamesCode, RenamesContent}
use Rattle.wasm_module.specs.RenamedSections.RenamesContent.{texts, code, nameless}
use Rattle.wasm_module.specs.RenamedSections.NamesUnknownIn.{in_texts as unknown_in_texts, in_code as unknown_in_code}
use Rattle.wasm_module.specs.RenamedSections.BodyBecomesTooLong.{in_code as too_long_in_code}
use Rattle.wasm_module.specs.Steps.Heads.{kinds_or_none}
use Rattle.wasm_module.specs.Steps.Tables.{row_kinds}
use Rattle.wasm_module.proofs.Changing.{none_weaker, some_weaker, changes_weaker}
use Rattle.wasm_module.proofs.ChangedContents.{kinds_of, malformed_content}
use Rattle.wasm_module.proofs.NamedTypes.{no_content_code, no_content_texts, row_some}
use Rattle.wasm_module.proofs.renamed_content.rename_content.Goals as goal

pub returns-then-id-eq-CODE : goal.returns-then-id-eq-CODE
returns-then-id-eq-CODE c =
    let content = c.args.content.now in
    let new_indices = c.args.new_indices.now in
    let w = c.args.widths in
    let is : c.args.id ≡ code_id = omega (arith, c.if-id-eq-CODE.true) in
    let Code = RenamesCode new_indices w in
    let Content = RenamesContent c.args.id new_indices w in
    record {
      stays = IfOk-weaker c.rename_code.result _ _
          (λ new h. none_weaker new _ _ (λ r. code content content _ is r) h) c.rename_code.ensures.stays;
      changes = IfOk-weaker c.rename_code.result _ _
          (λ new h. some_weaker new _ _
          (λ bytes r. changes_weaker Code Content content bytes.items
          (λ names s. code content bytes.items names is s) r) h)
          c.rename_code.ensures.changes;
      malformed = λ place e. malformed_content c.args.id place content
          (no_content_code c.args.id content (scan.Malformed place) is (c.rename_code.ensures.malformed place e));
      unknown = λ k place e. unknown_in_code content is (c.rename_code.ensures.unknown k place e);
      too_long = λ e. too_long_in_code content is (c.rename_code.ensures.too_long e);
    }

pub returns-in-NoInstruction-clause-stays : goal.returns-in-NoInstruction-clause-stays
returns-in-NoInstruction-clause-stays c =
    nameless c.args.content.now (sym c.in-NoInstruction.ensures)
    (λ e. omega (arith, e, c.if-id-eq-CODE.false))

pub returns-in_default : goal.returns-in_default
returns-in_default c =
    let id = c.args.id in
    let content = c.args.content.now in
    let new_indices = c.args.new_indices.now in
    let w = c.args.widths in
    let row = c.section_kinds.result in
    let kinds = kinds_or_none (row_kinds row) in
    let is : row_kinds row ≡ section_kinds id = c.section_kinds.ensures in
    let some : row_kinds row ≡ None → ⊥ = row_some row c.in_default.not-NoInstruction in
    let other : id ≡ code_id → ⊥ = λ e. omega (arith, e, c.if-id-eq-CODE.false) in
    let found = kinds_of id (row_kinds row) is some in
    let Texts = RenamesTexts new_indices w kinds in
    let Content = RenamesContent id new_indices w in
    record {
      stays = IfOk-weaker c.rename_texts.result _ _
          (λ new h. none_weaker new _ _ (λ r. texts kinds content content _ found r) h)
          c.rename_texts.ensures.stays;
      changes = IfOk-weaker c.rename_texts.result _ _
          (λ new h. some_weaker new _ _
          (λ bytes r. changes_weaker Texts Content content bytes.items
          (λ names s. texts kinds content bytes.items names found s) r) h)
          c.rename_texts.ensures.changes;
      malformed = λ place e. malformed_content id place content
          (no_content_texts id (row_kinds row) content (scan.Malformed place) is some other
          (λ names n. c.rename_texts.ensures.malformed place e n.tokens n.are));
      unknown = λ k place e. unknown_in_texts kinds content found (c.rename_texts.ensures.unknown k place e);
      too_long = λ e. absurd (c.rename_texts.ensures.sizeless e);
    }
