use Rattle.std.proofs.Common.{◌≤◌, length, drop, flat_map}
use Rattle.walrus_functions.specs.Nesting.{handlers}
use Rattle.walrus_nesting.specs.Pushing.{Pushes}
use Rattle.walrus_nesting.proofs.children.push_handlers.Given as goal

abbrev pub invariant-loop-left : goal.invariant-loop-left
invariant-loop-left g l =
    (l.left ≤ length l.clauses) × Pushes g.T.From.from_gives
    (flat_map handlers (drop l.left l.clauses)) l.initial.stack.items l.stack.items

abbrev pub decreases-loop-left : goal.decreases-loop-left
decreases-loop-left g l = l.left
