use Rattle.std.proofs.Common.{◌≡◌, map}
use Rattle.walrus_canonical.specs.declared.classes.Class.{Class}
use Rattle.walrus_canonical.proofs.Reading.ClassRecords.{LackRecords}
use Rattle.walrus_canonical.proofs.classes.with_records.Given as goal

abbrev pub invariant-loop-entries : goal.invariant-loop-entries
invariant-loop-entries l = record {
  can_next : (goal.iterator-loop-entries).can_next l.entries-iterator;
  is_finite : (goal.iterator-loop-entries).is_finite l.entries-iterator;
  firsts :
      map (λ (c : Class). c.first) l.classes.items ≡ map (λ (c : Class). c.first) l.fn.classes.items;
  lack : LackRecords l.fn.known.entries l.classes.items l.entries-iterator;
}
