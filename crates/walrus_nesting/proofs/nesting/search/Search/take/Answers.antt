use Rattle.std.proofs.Common.{sym, subst, ◌<◌}
use Rattle.walrus_nesting.specs.Steps.Searching.{State, IsSound, with_work, steps_left}
use Rattle.walrus_nesting.specs.declared.nesting.search.Work.{Work}
use Rattle.walrus_nesting.specs.declared.nesting.search.Work.TheVariants.{Leave}
use Rattle.walrus_nesting.proofs.Nested.SearchSteps.{leave_marked, leave_sound, leave_fewer}
use Rattle.walrus_nesting.proofs.nesting.search.Search.take.Goals as goal

pub leave-requires : goal.leave-requires
leave-requires c = leave_marked c.args.func.now.body c.args.self.now c.in-Leave.id
    (rw c.in-Leave.is at c.requires)

pub returns-in_ok-leave-in-Leave-clause-found : goal.returns-in_ok-leave-in-Leave-clause-found
returns-in_ok-leave-in-Leave-clause-found c =
    subst (IsSound c.args.func.now.body) (sym c.in_ok-leave-in-Leave.ensures)
    (leave_sound c.args.func.now.body c.args.self.now c.in-Leave.id (rw c.in-Leave.is at c.requires))

pub returns-in_ok-leave-in-Leave-clause-fewer : goal.returns-in_ok-leave-in-Leave-clause-fewer
returns-in_ok-leave-in-Leave-clause-fewer c =
    let fewer = leave_fewer c.args.func.now.body c.args.self.now c.in-Leave.id
    (rw c.in-Leave.is at c.requires) in
    subst (λ (w : Work). steps_left c.args.func.now.body c.leave.new.self < steps_left c.args.func.now.body
    (with_work w c.args.self.now)) (sym c.in-Leave.is)
    (subst (λ (s : State). steps_left c.args.func.now.body s < steps_left c.args.func.now.body
    (with_work (Leave c.in-Leave.id) c.args.self.now)) (sym c.in_ok-leave-in-Leave.ensures) fewer)
