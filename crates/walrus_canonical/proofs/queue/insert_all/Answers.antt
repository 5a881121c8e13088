use Rattle.std.proofs.Common.{◌++◌, ◌∙◌, sym}
use Rattle.std.proofs.lemmas.List.{nil_from_length}
use Rattle.std.specs.Vec.Iter.{into_iter_items}
use Rattle.walrus_canonical.proofs.Output.OrderedQueues.{more_inserted, all_inserted}
use Rattle.walrus_canonical.proofs.queue.insert_all.Goals as goal

pub loop-group-preserved : goal.loop-group-preserved
loop-group-preserved c = λ apart.
    more_inserted (c.args.kept.now.entries ++ c.args.groups.items) c.loop-group.kept.entries
    (into_iter_items c.loop-group.group-iterator) (into_iter_items c.next.new.self) c.in-Some.group
    c.in-Some.place
    c.insert.new.self.entries c.in-Some.ensures.steps.0 c.in_ok-insert.ensures.entries apart
    (c.loop-group.invariant apart)

pub returns : goal.returns
returns c = λ apart.
    all_inserted (c.args.kept.now.entries ++ c.args.groups.items) c.loop-group.kept.entries
    (into_iter_items c.loop-group.group-iterator)
    (nil_from_length (into_iter_items c.loop-group.group-iterator)
    (sym c.loop-group.group-iterator.rest.ok.0 ∙ c.in-None.ensures.steps.0))
    (c.loop-group.invariant apart)
