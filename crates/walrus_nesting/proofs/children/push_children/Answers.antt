use Rattle.std.proofs.Common.{[], ◌∷◌, sym, ap, ◌∙◌, flat_map}
use Rattle.walrus_functions.specs.Nesting.{children, handlers}
use Rattle.walrus_nesting.proofs.Pushed.{refused_later, refused_sooner}
use Rattle.walrus_nesting.proofs.children.push_children.Goals as goal

pub returns-in_err-push-in-IfElse-clause-refused : goal.returns-in_err-push-in-IfElse-clause-refused
returns-in_err-push-in-IfElse-clause-refused g c =
    refused_later g.T.From.from_gives c.from_residual.result (c.in-IfElse.x.consequent ∷ []) _ _ _ _
    (ap children c.in-IfElse.is) c.in_err-push-in-IfElse.ensures.refused

pub returns-in_ok-push-in-IfElse-clause-refused : goal.returns-in_ok-push-in-IfElse-clause-refused
returns-in_ok-push-in-IfElse-clause-refused g c =
    refused_sooner g.T.From.from_gives c.push-in-IfElse-2.result (c.in-IfElse.x.consequent ∷ [])
    (c.in-IfElse.x.alternative ∷ []) _ _ _ _
    (ap children c.in-IfElse.is) c.in_ok-push-in-IfElse.ensures.pushed c.push-in-IfElse-2.ensures.refused

pub returns-in_err-push_handlers-in-Try-clause-refused : goal.returns-in_err-push_handlers-in-Try-clause-refused
returns-in_err-push_handlers-in-Try-clause-refused g c =
    refused_later g.T.From.from_gives c.from_residual-in_err-push_handlers-in-Try.result (c.in-Try.x.seq ∷ [])
    (flat_map handlers c.as_slice.result.now) _ _ _
    (ap children c.in-Try.is ∙ ap (λ l. c.in-Try.x.seq ∷ flat_map handlers l) (sym c.as_slice.ensures))
    c.in_err-push_handlers-in-Try.ensures.refused

pub returns-in_ok-push_handlers-in-Try-clause-refused : goal.returns-in_ok-push_handlers-in-Try-clause-refused
returns-in_ok-push_handlers-in-Try-clause-refused g c =
    refused_sooner g.T.From.from_gives c.push-in-Try.result (c.in-Try.x.seq ∷ [])
    (flat_map handlers c.as_slice.result.now) _ _ _ _
    (ap children c.in-Try.is ∙ ap (λ l. c.in-Try.x.seq ∷ flat_map handlers l) (sym c.as_slice.ensures))
    c.in_ok-push_handlers-in-Try.ensures.pushed c.push-in-Try.ensures.refused
