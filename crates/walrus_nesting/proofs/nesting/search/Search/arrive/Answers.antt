use Rattle.walrus_nesting.proofs.Nested.SearchSteps.{skip_sound, back_shows, known_marked, enter_sound, enter_fewer}
use Rattle.std.proofs.Common.{sym, subst, ◌<◌}
use Rattle.walrus_nesting.specs.Steps.Searching.{State, IsSound, with_work, steps_left}
use Rattle.walrus_nesting.specs.declared.nesting.search.Work.TheVariants.{Enter}
use Rattle.walrus_nesting.proofs.nesting.search.Search.arrive.Goals as goal

pub returns-in-Done-clause-found : goal.returns-in-Done-clause-found
returns-in-Done-clause-found c = skip_sound c.args.func.now.body c.args.self.now c.args.id c.in-Done.ensures
    c.requires

pub returns-in-Open-clause-found : goal.returns-in-Open-clause-found
returns-in-Open-clause-found c = back_shows c.args.func.now.body c.args.self.now c.args.id c.in-Open.place
    c.in-Open.ensures c.requires

pub mark-requires : goal.mark-requires
mark-requires c = known_marked c.args.func.now.body (with_work (Enter c.args.id) c.args.self.now) c.args.id
    (c.contains_block.ensures.0 c.if-not-contains_block.false) c.requires

pub returns-in_ok-enter-in-New-clause-found : goal.returns-in_ok-enter-in-New-clause-found
returns-in_ok-enter-in-New-clause-found c =
    let known = c.contains_block.ensures.0 c.if-not-contains_block.false in
    subst (IsSound c.args.func.now.body) (sym c.in_ok-enter-in-New.ensures)
    (enter_sound c.args.func.now.body c.args.self.now c.args.id known c.in-New.ensures c.requires)

pub returns-in_ok-enter-in-New-clause-fewer : goal.returns-in_ok-enter-in-New-clause-fewer
returns-in_ok-enter-in-New-clause-fewer c =
    subst (λ (s : State). steps_left c.args.func.now.body s < steps_left c.args.func.now.body
    (with_work (Enter c.args.id) c.args.self.now)) (sym c.in_ok-enter-in-New.ensures)
    (enter_fewer c.args.func.now.body c.args.self.now c.args.id c.in-New.ensures)
