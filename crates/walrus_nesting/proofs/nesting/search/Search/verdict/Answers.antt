use Rattle.std.proofs.Common.{subst, ap, rules}
use Rattle.walrus_nesting.specs.Steps.Searching.{State, Finds}
use Rattle.walrus_nesting.specs.declared.nesting.search.Found.{Found}
use Rattle.walrus_nesting.proofs.Nested.SearchSteps.{end_shows}
use Rattle.walrus_nesting.proofs.nesting.search.Search.verdict.Goals as goal

pub returns-in-Nothing : goal.returns-in-Nothing
returns-in-Nothing c = λ f finds ended.
    let sound = subst (λ (x : Found). Finds f c.args.self x) c.in-Nothing.is finds in
    let shown = end_shows f c.args.self sound (ended c.in-Nothing.is) in
    rw (ap (λ (s : State). s.done) c.self.view_is) shown

pub returns-in-Back : goal.returns-in-Back
returns-in-Back c = search rules
