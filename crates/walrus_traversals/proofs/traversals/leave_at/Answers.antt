use Rattle.std.proofs.Common.{◌+◌}
use Rattle.std.proofs.lemmas.Result.{on_ok_weaker}
use Rattle.walrus_functions.specs.Nesting.{children}
use Rattle.walrus_traversals.specs.declared.traversals.stack.Work.TheVariants.{Resume}
use Rattle.walrus_traversals.proofs.Walks.Turns.{children_left}
use Rattle.walrus_traversals.proofs.traversals.leave_at.Goals as goal

pub returns : goal.returns
returns c =
    on_ok_weaker c.push_children.result
    (λ k. children_left (Resume c.args.id (c.args.place + 1)) (children c.args.instr.now) _ _ _
    c.in_ok-push.ensures.items k)
    c.push_children.ensures.pushed
