use Rattle.std.proofs.Common.{ℕ, ◌∙◌, subst, IfOk}
use Rattle.std.proofs.lemmas.Result.{IfOk-weaker}
use Rattle.walrus_nesting.specs.Certificates.{Shows}
use Rattle.walrus_nesting.proofs.Nested.Exact.{nested_exactly}
use Rattle.walrus_nesting.proofs.nesting.check_nesting.Goals as goal

pub returns-clause-shows : goal.returns-clause-shows
returns-clause-shows c =
    subst (λ (start : ℕ). IfOk c.verdict.result (Shows c.args.func.now.body start))
    (c.in_ok-found.ensures.start ∙ c.in_ok-search.ensures.start)
    (c.verdict.ensures c.args.func.now.body c.in_ok-found.ensures.found c.in_ok-found.ensures.ended)

pub returns-clause-exact : goal.returns-clause-exact
returns-clause-exact c =
    let shown = subst (λ (start : ℕ). IfOk c.verdict.result (Shows c.args.func.now.body start))
    (c.in_ok-found.ensures.start ∙ c.in_ok-search.ensures.start)
    (c.verdict.ensures c.args.func.now.body c.in_ok-found.ensures.found c.in_ok-found.ensures.ended) in
    IfOk-weaker c.verdict.result _ _ (nested_exactly c.args.func.now.body c.args.start) shown
