use Rattle.std.proofs.Common.{◌≡◌, ◌+◌, ◌<◌, ◌≤◌, ◌^◌, length}
use Rattle.walrus_canonical.proofs.Output.IndicesGiven.{AreGivenTo}
use Rattle.walrus_canonical.proofs.write.give_indices.Given as goal

abbrev pub invariant-loop-slot : goal.invariant-loop-slot
invariant-loop-slot l =
    (length l.new_index.items ≡ length l.fn.new_index.items)
    × (l.first + l.count ≤ length l.fn.new_index.items → l.next + l.count < 2 ^ 32 →
    AreGivenTo l.fn.new_index.items l.new_index.items l.first l.next l.slot l.index)
