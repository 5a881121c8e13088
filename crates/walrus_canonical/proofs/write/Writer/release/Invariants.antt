use Rattle.std.proofs.Common.{◌≡◌, ◌<◌, ◌≤◌, ℕ, Bool, false, length}
use Rattle.walrus_ty.specs.Groups.{Section}
use Rattle.walrus_canonical.specs.Steps.Writing.{Task, CanRelease, IsReleasing, release_of, with_slots}
use Rattle.walrus_canonical.proofs.write.Writer.release.Given as goal

abbrev pub invariant-loop-at : goal.invariant-loop-at
invariant-loop-at l = record {
  within : l.at ≤ length l.waits;
  released :
      (task : Task) (done : ℕ → Bool) (before : Section) →
      CanRelease task (release_of l.waits done (with_slots done l.first l.end)) →
      ((x : ℕ) → l.first ≤ x → x < l.end → done x ≡ false) →
      IsReleasing task (release_of l.waits done (with_slots done l.first l.end)) before 0 l.fn.self →
      IsReleasing task (release_of l.waits done (with_slots done l.first l.end)) before l.at l.self;
}
