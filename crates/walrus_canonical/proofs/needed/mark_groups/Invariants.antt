use Rattle.std.proofs.Common.{◌≡◌, List, ℕ, length}
use Rattle.walrus_ty.specs.Records.{section_of}
use Rattle.walrus_canonical.specs.Steps.Marks.{MarkRoots}
use Rattle.walrus_canonical.proofs.Needs.NeedsMarked.{AreMarkedFrom}
use Rattle.walrus_canonical.proofs.Needs.TurnsBack.{count_left}
use Rattle.walrus_canonical.proofs.needed.mark_groups.Given as goal

abbrev pub invariant-loop-group : goal.invariant-loop-group
invariant-loop-group l =
    (l.end ≡ count_left l.groups (length l.yielded))
    × ((roots : List ℕ) → MarkRoots (section_of l.groups) roots l.fn.needed.items
    → AreMarkedFrom (section_of l.groups) roots l.end l.needed.items)
