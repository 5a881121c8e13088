use Rattle.std.proofs.Common.{[], arith}
use Rattle.std.proofs.lemmas.Result.{IfOk-weaker}
use Rattle.wasm_module.specs.RenamedModules.RenamesAny.{custom, other}
use Rattle.wasm_module.specs.RenamedModules.PartBecomesTooLong.{custom as long_custom, other as long_other}
use Rattle.wasm_module.specs.NameSections.{RenamesCustom}
use Rattle.wasm_module.specs.RenamedModules.{RenamesAny}
use Rattle.wasm_module.specs.RenamedSections.{RenamesContent}
use Rattle.wasm_module.proofs.Changing.{none_weaker, some_weaker, changes_weaker}
use Rattle.wasm_module.proofs.renamed_module.rename_any.Goals as goal

pub returns-then-id-eq-CUSTOM-clause-stays : goal.returns-then-id-eq-CUSTOM-clause-stays
returns-then-id-eq-CUSTOM-clause-stays c =
    IfOk-weaker c.rename_custom.result _ _
    (λ new h. none_weaker new _ _ (λ r. custom c.args.content.now c.args.content.now []
    (omega (arith, c.if-id-eq-CUSTOM.true)) r) h)
    c.rename_custom.ensures.stays

pub returns-then-id-eq-CUSTOM-clause-changes : goal.returns-then-id-eq-CUSTOM-clause-changes
returns-then-id-eq-CUSTOM-clause-changes c =
    IfOk-weaker c.rename_custom.result _ _
    (λ new h. some_weaker new _ _ (λ bytes r. changes_weaker
    (RenamesCustom c.args.new_indices.now c.args.widths)
    (RenamesAny c.args.id c.args.new_indices.now c.args.widths) c.args.content.now bytes.items
    (λ names k. custom c.args.content.now bytes.items names (omega (arith, c.if-id-eq-CUSTOM.true)) k) r) h)
    c.rename_custom.ensures.changes

pub returns-then-id-eq-CUSTOM-clause-unknown : goal.returns-then-id-eq-CUSTOM-clause-unknown
returns-then-id-eq-CUSTOM-clause-unknown c = λ k place e. absurd (c.rename_custom.ensures.known k place e)

pub returns-then-id-eq-CUSTOM-clause-too_long : goal.returns-then-id-eq-CUSTOM-clause-too_long
returns-then-id-eq-CUSTOM-clause-too_long c = λ e. long_custom c.args.content.now
    (omega (arith, c.if-id-eq-CUSTOM.true)) (c.rename_custom.ensures.too_long e)

pub returns-clause-stays : goal.returns-clause-stays
returns-clause-stays c =
    IfOk-weaker c.rename_content.result _ _
    (λ new h. none_weaker new _ _ (λ r. other c.args.content.now c.args.content.now []
    (λ e. omega (arith, e, c.if-id-eq-CUSTOM.false)) r) h)
    c.rename_content.ensures.stays

pub returns-clause-changes : goal.returns-clause-changes
returns-clause-changes c =
    IfOk-weaker c.rename_content.result _ _
    (λ new h. some_weaker new _ _ (λ bytes r. changes_weaker
    (RenamesContent c.args.id c.args.new_indices.now c.args.widths)
    (RenamesAny c.args.id c.args.new_indices.now c.args.widths) c.args.content.now bytes.items
    (λ names k. other c.args.content.now bytes.items names
    (λ e. omega (arith, e, c.if-id-eq-CUSTOM.false)) k) r) h)
    c.rename_content.ensures.changes

pub returns-clause-too_long : goal.returns-clause-too_long
returns-clause-too_long c = λ e. long_other c.args.content.now
    (λ is. omega (arith, is, c.if-id-eq-CUSTOM.false)) (c.rename_content.ensures.too_long e)
