use Rattle.wasm_module.specs.declared.renaming.RenameError.TheVariants as rename
use Rattle.wasm_module.specs.RenamedSections.{RenamesTexts}
use Rattle.wasm_module.specs.Renaming.{IsNoText}
use Rattle.wasm_module.proofs.Changing.{in_both, none_weaker, some_weaker, whole_stays, whole_changes}
use Rattle.wasm_module.proofs.Rewriting.{error_came, none_whole, stays_trailed, changes_trailed}
use Rattle.wasm_module.proofs.WholeTexts.{empty, not_empty}
use Rattle.wasm_module.proofs.renaming.rename_whole.Goals as goal

pub returns-in_err-new-clause-malformed : goal.returns-in_err-new-clause-malformed
returns-in_err-new-clause-malformed c =
    let r = c.from_residual in
    λ place e. none_whole c.args.kinds c.args.bytes.now (c.in_err-new.ensures.malformed place (error_came r.result r.ensures.1 e))

pub returns-then-not-is_empty-clause-malformed : goal.returns-then-not-is_empty-clause-malformed
returns-then-not-is_empty-clause-malformed c =
    let some = not_empty c.rename.new.input.now c.if-not-is_empty.ensures in
    λ place e. in_both c.in_ok-new.new _ _ (IsNoText c.args.kinds c.args.bytes.now) c.in_ok-new.ensures.stays
    c.in_ok-new.ensures.changes
    (stays_trailed c.args.new_indices.now c.args.widths c.args.kinds c.args.bytes.now
    c.rename.new.input.now some)
    (λ new. changes_trailed c.args.new_indices.now c.args.widths c.args.kinds c.args.bytes.now
    c.rename.new.input.now new.items some)

pub returns-clause-stays : goal.returns-clause-stays
returns-clause-stays c =
    none_weaker c.in_ok-new.new _ _
    (whole_stays (RenamesTexts c.args.new_indices.now c.args.widths c.args.kinds) c.args.bytes.now
    c.rename.new.input.now (empty c.rename.new.input.now c.if-not-is_empty.ensures))
    c.in_ok-new.ensures.stays

pub returns-clause-changes : goal.returns-clause-changes
returns-clause-changes c =
    some_weaker c.in_ok-new.new _ _
    (λ new. whole_changes (RenamesTexts c.args.new_indices.now c.args.widths c.args.kinds) c.args.bytes.now
    c.rename.new.input.now new.items (empty c.rename.new.input.now c.if-not-is_empty.ensures))
    c.in_ok-new.ensures.changes
