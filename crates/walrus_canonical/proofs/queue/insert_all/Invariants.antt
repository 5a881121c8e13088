use Rattle.std.proofs.Common.{◌++◌}
use Rattle.std.specs.List.Sorted.{IsPermutation}
use Rattle.std.specs.Vec.Iter.{into_iter_items}
use Rattle.walrus_canonical.specs.Steps.Queues.{AreApart}
use Rattle.walrus_canonical.proofs.queue.insert_all.Given as goal

abbrev pub invariant-loop-group : goal.invariant-loop-group
invariant-loop-group l =
    AreApart (l.fn.kept.entries ++ l.fn.groups.items) →
    IsPermutation (l.fn.kept.entries ++ l.fn.groups.items)
    (l.kept.entries ++ into_iter_items l.group-iterator)
