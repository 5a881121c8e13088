use Rattle.std.proofs.Common.{rules, ◌≡◌, ◌∙◌, sym}
use Rattle.std.proofs.lemmas.List.{nil_from_length}
use Rattle.std.specs.Vec.Iter.{into_iter_items}
use Rattle.walrus_canonical.proofs.Reading.ReadSections.{nothing_read, one_more_read, all_read}
use Rattle.walrus_canonical.proofs.classes.read_section.Goals as goal

pub loop-group-init : goal.loop-group-init
loop-group-init c =
    let all : c.args.groups.items ≡ into_iter_items c.into_iter-group-iterator.result = search rules in
    nothing_read c.args.groups.items (into_iter_items c.into_iter-group-iterator.result) c.args.needed.now
    c.new-reader.result all c.new-reader.ensures.slots c.new-reader.ensures.read

pub loop-group-preserved : goal.loop-group-preserved
loop-group-preserved c =
    one_more_read c.args.groups.items (into_iter_items c.loop-group.group-iterator)
    (into_iter_items c.next.new.self) c.args.needed.now c.loop-group.reader c.push_group.new.self
    c.in-Some.group c.in-Some.ensures.steps.0 c.loop-group.invariant c.in_ok-push_group.ensures

pub returns : goal.returns
returns c roots well needs =
    let none = nil_from_length (into_iter_items c.loop-group.group-iterator)
    (sym c.loop-group.group-iterator.rest.ok.0 ∙ c.in-None.ensures.steps.0) in
    all_read c.args.groups.items (into_iter_items c.loop-group.group-iterator) c.args.needed.now
    c.loop-group.reader roots well needs none c.loop-group.invariant c.finish.result.slots.items
    c.finish.result.slot_count c.finish.result.classes.items c.finish.ensures.slots
    c.finish.ensures.slot_count c.finish.ensures.firsts c.finish.ensures.records
