use Rattle.std.specs.Vec.Iter.{into_iter_items}
use Rattle.walrus_normal_form.proofs.Reading.OwnedGroups.{HasRead}
use Rattle.walrus_normal_form.proofs.read.read_section.Given as goal

abbrev pub invariant-loop-group : goal.invariant-loop-group
invariant-loop-group l =
    HasRead l.fn.groups.items (into_iter_items l.group-iterator) l.reader.slots.items l.reader.groups.items
    l.reader.lone.entries
