use Rattle.std.proofs.Common.{◌≡◌, length, refl}
use Rattle.std.proofs.lemmas.Result.{on_ok_weaker}
use Rattle.walrus_ty.specs.Records.{group_of}
use Rattle.walrus_canonical.proofs.Reading.SkippedGroups.{found_marked, skipped_ends}
use Rattle.walrus_canonical.proofs.Reading.NeededGroups.{size_of_records}
use Rattle.walrus_canonical.proofs.classes.Reader.push_group.Goals as goal

pub returns-then-has_needed : goal.returns-then-has_needed
returns-then-has_needed c =
    let from : c.len-start.result ≡ length c.args.self.now.slots.items = cc in
    let size = size_of_records c.entries_of-count.result.now _ (length c.entries_of-count.result.now)
    c.entries_of-count.ensures refl in
    on_ok_weaker c.push_needed.result (λ f section roots well needs stands h. (
    let z = found_marked section roots c.args.needed.now (length c.args.self.now.slots.items)
    c.len-start.result (length c.entries_of-count.result.now) c.saturating_add.result
    (group_of c.args.group) well needs stands from size c.saturating_add.ensures
    (c.has_needed.ensures.found c.if-has_needed.true) in
    f c.args.needed.now z.1 z.0 section roots well needs stands h)) c.push_needed.ensures

pub returns-in_ok-push_slots : goal.returns-in_ok-push_slots
returns-in_ok-push_slots c section roots well needs stands h =
    let from : c.len-start.result ≡ length c.args.self.now.slots.items = cc in
    let size = size_of_records c.entries_of-count.result.now _ (length c.entries_of-count.result.now)
    c.entries_of-count.ensures refl in
    skipped_ends section c.args.needed.now (length c.args.self.now.slots.items) c.len-start.result
    (length c.entries_of-count.result.now) c.saturating_add.result (group_of c.args.group) well stands from
    size c.saturating_add.ensures c.args.self.now.slots.items c.push_slots.new.slots.items _ _ _ refl h
    c.in_ok-push_slots.ensures (c.has_needed.ensures.none c.if-has_needed.false)
