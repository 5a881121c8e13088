use Rattle.walrus_passes.specs.MappedInstrs.{IsMappedItem, Leaves}
use Rattle.walrus_passes.proofs.Mapping.{Mapped}
use Rattle.walrus_passes.proofs.instrs.map_items.Given as goal

abbrev pub invariant-loop-i : goal.invariant-loop-i
invariant-loop-i g l =
    Mapped (IsMappedItem (Leaves (goal.F-post g l.change))) l.initial.items.items l.items.items l.i
