use Rattle.std.proofs.Common.{◌∙◌, refl}
use Rattle.walrus_canonical.proofs.Reading.ClassRecords.{all_lack, one_less, firsts_stay, none_lack}
use Rattle.walrus_canonical.proofs.classes.with_records.Goals as goal

pub loop-entries-init : goal.loop-entries-init
loop-entries-init c = record {
  can_next = tt;
  is_finite = tt;
  firsts = refl;
  lack = rw c.into_iter-entries-iterator.ensures.into_iter_gives.0
      (all_lack c.args.known.entries c.args.classes.items
      c.into_iter-entries-iterator.ensures.into_iter_gives.4);
}

pub loop-entries-preserved : goal.loop-entries-preserved
loop-entries-preserved c =
    let known = c.args.known.entries in
    let before = c.loop-entries.classes.items in
    let after = c.put_records.new.classes.items in
    let lack = rw c.in-Some.ensures.steps at c.loop-entries.invariant.lack in
    record {
      can_next = tt;
      is_finite = tt;
      firsts = firsts_stay known before after c.in-Some.entries c.in-Some.place c.next.new.self lack
          c.put_records.ensures.put c.put_records.ensures.stays ∙ c.loop-entries.invariant.firsts;
      lack = one_less known before after c.in-Some.entries c.in-Some.place c.next.new.self lack
          c.put_records.ensures.put c.put_records.ensures.stays;
    }

pub returns-clause-records : goal.returns-clause-records
returns-clause-records c =
    none_lack c.args.known.entries c.loop-entries.classes.items
    (rw c.in-None.ensures.steps.0 at c.loop-entries.invariant.lack)
