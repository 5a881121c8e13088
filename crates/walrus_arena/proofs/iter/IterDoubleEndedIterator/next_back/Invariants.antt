use Rattle.std.proofs.Common.{◌≡◌, ◌+◌, ◌<◌, ◌^◌, map, length}
use Rattle.walrus_arena.specs.Arena.{items_from}
use Rattle.walrus_arena.specs.Slot.{value_of}
use Rattle.walrus_arena.proofs.iter.IterDoubleEndedIterator.next_back.Given as goal

-- only dead slots were passed over
abbrev pub invariant-loop-slot : goal.invariant-loop-slot
invariant-loop-slot g l =
    (l.self-inside.first + length l.self-inside.slots.now < 2 ^ 64)
    × (items_from l.self-inside.first (map value_of l.self-inside.slots.now) ≡ l.fn.self)

abbrev pub decreases-loop-slot : goal.decreases-loop-slot
decreases-loop-slot g l = length l.self-inside.slots.now
