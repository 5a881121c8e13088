use Rattle.std.proofs.Common.{length}
use Rattle.walrus_traversals.specs.Events.{events}
use Rattle.walrus_traversals.proofs.Walks.Left.{left}
use Rattle.walrus_traversals.proofs.Walks.Turns.{Trail}
use Rattle.walrus_traversals.proofs.traversals.dfs_in_order.Given as goal

abbrev pub invariant-loop-work : goal.invariant-loop-work
invariant-loop-work g l =
    Trail g.V.Visitor.step l.func.body l.fn.visitor (events l.fn.func.body l.fn.start) l.visitor l.stack.items

abbrev pub decreases-loop-work : goal.decreases-loop-work
decreases-loop-work g l = length (left l.func.body l.stack.items)
