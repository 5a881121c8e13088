use Rattle.std.proofs.Common.{◌≡◌, ◌∷◌, ◌∙◌, List, ap, subst}
use Rattle.std.proofs.lemmas.Result.{err_from_is_err_and}
use Rattle.wasm_module.specs.declared.kind.Kind.{Kind}
use Rattle.wasm_module.specs.declared.kind.Kind.TheVariants as kind
use Rattle.wasm_module.specs.Steps.Scans.{IsScanned, IsRefused}
use Rattle.wasm_module.specs.Bodies.{body}
use Rattle.wasm_module.proofs.WholeTexts.{no_body, trailed, not_empty}
use Rattle.wasm_module.proofs.bodies.types_of_body.Goals as goal

pub returns-in_err-types-clause-refused : goal.returns-in_err-types-clause-refused
returns-in_err-types-clause-refused c =
    let p = err_from_is_err_and c.from_residual-in_err-types.result c.from_residual-in_err-types.ensures.1 in
    let is : c.push.new.self ≡ body = c.in_ok-push.ensures
    ∙ ap (λ (u : List Kind). kind.Locals ∷ u) c.new-kinds.ensures in
    rw (p.1, p.2) (no_body c.args.content.now c.in_err-types.field-0.0
    (subst (λ (u : List Kind). IsRefused u c.args.content.now c.in_err-types.field-0.0) is
    c.in_err-types.ensures.refused))

pub returns-then-not-is_empty-clause-refused : goal.returns-then-not-is_empty-clause-refused
returns-then-not-is_empty-clause-refused c =
    let is : c.push.new.self ≡ body = c.in_ok-push.ensures
    ∙ ap (λ (u : List Kind). kind.Locals ∷ u) c.new-kinds.ensures in
    λ names b. trailed c.args.content.now c.scan.new.input.now c.in_ok-types.types.items
    (subst (λ (u : List Kind). IsScanned u c.args.content.now c.scan.new.input.now c.in_ok-types.types.items)
    is c.in_ok-types.ensures.found)
    (not_empty c.scan.new.input.now (c.if-not-is_empty.ensures)) names b
