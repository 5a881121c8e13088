use Rattle.std.proofs.Common.{ℕ, List}
use Rattle.walrus_ty.specs.Groups.{Section}
use Rattle.walrus_normal_form.specs.Steps.SectionReaders.{IsReadSoFar}
use Rattle.walrus_normal_form.proofs.Reading.PutRecords.{LacksRecords}
use Rattle.walrus_normal_form.proofs.read.with_records.Given as goal

abbrev pub invariant-loop-entry : goal.invariant-loop-entry
invariant-loop-entry l = record {
  can_next : (goal.iterator-loop-entry).can_next l.entry-iterator;
  is_finite : (goal.iterator-loop-entry).is_finite l.entry-iterator;
  lacks :
      (s : Section) (slots : List ℕ) (is : IsReadSoFar s slots l.fn.groups.items l.fn.lone.entries) →
      LacksRecords is.whole l.groups.items l.entry-iterator;
}
