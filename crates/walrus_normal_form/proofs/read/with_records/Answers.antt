use Rattle.std.proofs.Common.{ℕ, List, refl, sym, subst}
use Rattle.walrus_ty.specs.declared.records.EntryAt.{EntryAt}
use Rattle.walrus_normal_form.specs.declared.slot_group.SlotGroup.{SlotGroup}
use Rattle.walrus_normal_form.specs.Steps.ReadSections.{IsReadAs}
use Rattle.walrus_normal_form.proofs.Reading.PutRecords.{LacksRecords, at_first, place_below, one_put, none_lacks}
use Rattle.walrus_normal_form.proofs.read.with_records.Goals as goal

pub loop-entry-init : goal.loop-entry-init
loop-entry-init c = record {
  can_next = tt;
  is_finite = tt;
  lacks = λ s slots is. subst (λ (es : List (EntryAt × ℕ)). LacksRecords is.whole c.args.groups.items es)
      (sym c.into_iter-entry-iterator.ensures.into_iter_gives.0)
      (at_first is.whole c.args.groups.items s slots c.args.lone.entries is refl
      c.into_iter-entry-iterator.ensures.into_iter_gives.4);
}

pub put_record-requires : goal.put_record-requires
put_record-requires c =
    let r = c.requires in
    let lacks = subst (λ (es : List (EntryAt × ℕ)). LacksRecords r.2.whole c.loop-entry.groups.items es)
    c.in-Some.ensures.steps (c.loop-entry.invariant.lacks r.0 r.1 r.2) in
    place_below r.2.whole c.loop-entry.groups.items c.in-Some.entry c.in-Some.place c.next.new.self lacks

pub loop-entry-preserved : goal.loop-entry-preserved
loop-entry-preserved c = record {
  can_next = tt;
  is_finite = tt;
  lacks = λ s slots is.
      (let lacks = subst (λ (es : List (EntryAt × ℕ)). LacksRecords is.whole c.loop-entry.groups.items es)
      c.in-Some.ensures.steps (c.loop-entry.invariant.lacks s slots is) in
      subst (λ (gs : List SlotGroup). LacksRecords is.whole gs c.next.new.self) (sym c.put_record.ensures)
      (one_put is.whole c.loop-entry.groups.items c.in-Some.entry c.in-Some.place c.next.new.self lacks));
}

pub returns : goal.returns
returns c = λ s slots is.
    (let lacks = subst (λ (es : List (EntryAt × ℕ)). LacksRecords is.whole c.loop-entry.groups.items es)
    c.in-None.ensures.steps.0 (c.loop-entry.invariant.lacks s slots is) in
    subst (λ (gs : List SlotGroup). IsReadAs s slots gs)
    (sym (none_lacks is.whole c.loop-entry.groups.items lacks)) is.read)
