use Rattle.std.proofs.Common.{◌≡◌, reverse}
use Rattle.walrus_traversals_mut.specs.Steps.{sum_of, visits, depth}
use Rattle.walrus_traversals_mut.proofs.Composing.{Pending}
use Rattle.walrus_traversals_mut.proofs.traversals_mut.dfs_pre_order_mut.Given as goal

abbrev pub invariant-loop-seq : goal.invariant-loop-seq
invariant-loop-seq g l =
    Pending g.V.VisitorMut.step (l.fn.visitor, l.fn.func.body) l.fn.start
    (l.visitor, l.func.body) (reverse l.stack.items) × (l.func.args ≡ l.fn.func.args)

abbrev pub decreases-loop-seq : goal.decreases-loop-seq
decreases-loop-seq g l = sum_of (visits l.func.body (depth l.func.body)) (reverse l.stack.items)
