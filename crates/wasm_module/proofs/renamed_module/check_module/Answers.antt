use Rattle.std.proofs.Common.{◌∙◌}
use Rattle.wasm_module.proofs.RenamedModules.{unknown_for}
use Rattle.wasm_module.proofs.Rewriting.{error_came}
use Rattle.wasm_module.proofs.renamed_module.check_module.Goals as goal

pub returns-in_err-rename_module-clause-malformed : goal.returns-in_err-rename_module-clause-malformed
returns-in_err-rename_module-clause-malformed c =
    let r = c.from_residual-in_err-rename_module in
    λ place e. c.in_err-rename_module.ensures.malformed place (error_came r.result r.ensures.1 e)

pub returns-in_err-rename_module-clause-unknown : goal.returns-in_err-rename_module-clause-unknown
returns-in_err-rename_module-clause-unknown c =
    let r = c.from_residual-in_err-rename_module in
    λ k place e. unknown_for _ _ _ _ k c.args.bytes.now (c.as_slice.ensures.value ∙ c.in_ok-same.ensures)
    (c.in_err-rename_module.ensures.unknown k place (error_came r.result r.ensures.1 e))

pub returns-clause-accepted : goal.returns-clause-accepted
returns-clause-accepted c = λ none. none _ _ _ _ c.in_ok-rename_module.ensures.renamed
