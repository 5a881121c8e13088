use Rattle.wasm_module.specs.declared.scan.ScanError.TheVariants as scan
use Rattle.wasm_module.specs.Bodies.{body}
use Rattle.wasm_module.specs.Changes.{ChangeAll, BecomesTooLong}
use Rattle.wasm_module.specs.RenamedSections.{RenamesTexts, RenamesBody}
use Rattle.wasm_module.specs.Renaming.{NamesUnknown}
use Rattle.wasm_module.specs.Steps.Changes.{ChangesPrefix}
use Rattle.wasm_module.specs.Steps.Contents.{IsNoCode}
use Rattle.wasm_module.proofs.Changing.{in_both, if_none, if_some}
use Rattle.wasm_module.proofs.ChangedCode.{begins_with, count_fits, code_stays, code_changes, code_first}
use Rattle.wasm_module.proofs.CodeSections.{code_countless, code_malformed, code_left_over}
use Rattle.wasm_module.proofs.Rewriting.{error_came}
use Rattle.wasm_module.proofs.WholeTexts.{empty, not_empty}
use Rattle.wasm_module.proofs.renamed_code.rename_code.Goals as goal

pub returns-in_default-clause-malformed : goal.returns-in_default-clause-malformed
returns-in_default-clause-malformed c =
    λ place e. code_countless c.args.content.now c.read_u32.new.input.now c.in_default.ensures

pub returns-in_err-new_bodies-clause-malformed : goal.returns-in_err-new_bodies-clause-malformed
returns-in_err-new_bodies-clause-malformed c =
    let r = c.from_residual in
    λ place e. code_malformed c.args.content.now c.in-Some.count c.read_u32.new.input.now (scan.Malformed place)
    c.in-Some.ensures
    (c.in_err-new_bodies.ensures.malformed place (error_came r.result r.ensures.1 e))

pub returns-in_err-new_bodies-clause-unknown : goal.returns-in_err-new_bodies-clause-unknown
returns-in_err-new_bodies-clause-unknown c =
    let r = c.from_residual in
    λ k place e. code_first c.args.new_indices.now c.args.widths
    (λ b. NamesUnknown c.args.new_indices.now body b k) c.args.content.now c.in-Some.count
    c.read_u32.new.input.now c.in-Some.ensures (c.in_err-new_bodies.ensures.unknown k place (error_came r.result r.ensures.1 e))

pub returns-in_err-new_bodies-clause-too_long : goal.returns-in_err-new_bodies-clause-too_long
returns-in_err-new_bodies-clause-too_long c =
    let r = c.from_residual in
    λ e. code_first c.args.new_indices.now c.args.widths
    (BecomesTooLong (RenamesTexts c.args.new_indices.now c.args.widths body)) c.args.content.now
    c.in-Some.count c.read_u32.new.input.now c.in-Some.ensures
    (c.in_err-new_bodies.ensures.too_long (error_came r.result r.ensures.1 e))

pub returns-then-not-is_empty-clause-malformed : goal.returns-then-not-is_empty-clause-malformed
returns-then-not-is_empty-clause-malformed c =
    let rest = c.rename_bodies.new.input.now in
    let after = c.read_u32.new.input.now in
    let some = not_empty rest c.if-not-is_empty.ensures in
    λ place e. in_both c.in_ok-new_bodies.new_bodies _ _ (IsNoCode c.args.content.now (scan.Malformed place))
    c.in_ok-new_bodies.ensures.stays c.in_ok-new_bodies.ensures.changes
    (λ s. code_left_over c.args.content.now c.in-Some.count after rest _ c.in-Some.ensures
    (begins_with c.args.new_indices.now c.args.widths c.in-Some.count after s.text rest s.text _ s.parts
    s.stays) some)
    (λ new s. code_left_over c.args.content.now c.in-Some.count after rest s.changes.names c.in-Some.ensures
    (begins_with c.args.new_indices.now c.args.widths c.in-Some.count after s.text rest new.items
    s.changes.names s.parts s.changes.becomes) some)

pub returns-in_default-new_bodies-clause-stays : goal.returns-in_default-new_bodies-clause-stays
returns-in_default-new_bodies-clause-stays c =
    let rest = c.rename_bodies.new.input.now in
    code_stays c.args.new_indices.now c.args.widths c.args.content.now c.in-Some.count
    c.read_u32.new.input.now rest c.in-Some.ensures (empty rest c.if-not-is_empty.ensures)
    (if_none c.in_ok-new_bodies.new_bodies _ c.in_default-new_bodies.not-Some
    c.in_ok-new_bodies.ensures.stays)

pub returns-clause-changes : goal.returns-clause-changes
returns-clause-changes c =
    let rest = c.rename_bodies.new.input.now in
    let after = c.read_u32.new.input.now in
    let Bodies = ChangeAll (RenamesBody c.args.new_indices.now c.args.widths) c.in-Some.count in
    let changes = if_some c.in_ok-new_bodies.new_bodies c.in-Some-new_bodies.new_bodies
    (λ x. ChangesPrefix Bodies after rest x.items) c.in-Some-new_bodies.is
    c.in_ok-new_bodies.ensures.changes in
    code_changes c.args.new_indices.now c.args.widths c.args.content.now c.in-Some.count after rest
    c.in-Some-new_bodies.new_bodies.items c.in_ok-new.new.items c.in-Some.ensures
    (empty rest c.if-not-is_empty.ensures) changes c.in_ok-new.ensures

pub slice_bounds-prepend-count : goal.slice_bounds-prepend-count
slice_bounds-prepend-count c =
    count_fits c.args.content.now c.in-Some.count c.read_u32.new.input.now c.in-Some.ensures
