use Rattle.std.specs.Vec.Iter.{into_iter_items}
use Rattle.walrus_canonical.proofs.Reading.ReadSections.{HasReadBut}
use Rattle.walrus_canonical.proofs.classes.read_section.Given as goal

abbrev pub invariant-loop-group : goal.invariant-loop-group
invariant-loop-group l =
    HasReadBut l.fn.groups.items (into_iter_items l.group-iterator) l.needed l.reader
