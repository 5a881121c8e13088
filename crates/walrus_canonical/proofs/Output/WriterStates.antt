-- The states of a writer, from its fields.
use Rattle.std.proofs.Common.{◌≡◌, ℕ, Bool, false, ◌+◌, ◌<◌, ◌≤◌, List, [], ◌∷◌, ◌++◌, length, map, replicate, slice_get, Some, ◌∙◌, sym, ap, OnOk}
use Rattle.std.specs.declared.result.Result.{Result}
use Rattle.std.specs.declared.result.Result.TheVariants.{Ok, Err}
use Rattle.walrus_ty.specs.Groups.{Section}
use Rattle.walrus_ty.specs.Records.{group_of}
use Rattle.walrus_canonical.specs.declared.classes.Class.{Class}
use Rattle.walrus_canonical.specs.declared.waiting.Wait.{Wait}
use Rattle.walrus_canonical.specs.declared.write.Writer.{Writer}
use Rattle.walrus_canonical.specs.Steps.Waits.{AreCounts, AreWaits}
use Rattle.walrus_canonical.specs.Steps.Writing.{Task, release_of, IsQueue, IsReady, AreOpen, IsOpening, IsReleasing, IsWriting, CanRelease, IsNext}
use Rattle.walrus_canonical.proofs.Output.FinishedSections.{nothing_begun}
use Rattle.walrus_canonical.proofs.Waits.OpenWaits.{counts_begin}
use Rattle.walrus_canonical.proofs.Output.PushedClasses.{queue_key, none_opened, all_opened}
use Rattle.walrus_canonical.proofs.Output.ReleasedClasses.{left, was, counts_now, ready_now, waits_on}

-- nothing is written or ready
pub opens_with_nothing :
    (task : Task) (waits : List Wait) (w : Writer) (classes : List Class) (counts : List ℕ) →
    task.classes ≡ classes → w.classes.items ≡ classes → w.counts.items ≡ counts → w.ready ≡ [] →
    w.new_index.items ≡ replicate task.slot_count 0 → w.next ≡ 0 → w.written.items ≡ [] →
    AreCounts waits (length classes) counts → IsOpening task waits 0 w
opens_with_nothing task waits w classes counts same is_classes is_counts none zeros zero nothing a = record {
  begun = rw zero (nothing_begun task w.new_index.items zeros);
  written = ap (map group_of) nothing;
  counts = rw is_counts
      (counts_begin task waits (length classes) counts (ap (λ (cs : List Class). length cs) (sym same)) a);
  queue = rw (none, is_classes, ← same) (none_opened task w.new_index.items w.counts.items);
}

-- each place is passed
pub opens_the_writing :
    (task : Task) (waits : List Wait) (place : ℕ) (w : Writer) → AreWaits task.classes waits →
    length task.classes ≤ place → IsOpening task waits place w → IsWriting task waits (λ x. false) [] w
opens_the_writing task waits place w are all h = record {
  begun = h.begun;
  written = h.written;
  counts = h.counts;
  queue = all_opened task waits are place w.new_index.items w.next h.begun w.counts.items h.counts
      w.classes.items w.ready h.queue all;
}

-- the same of another record with the same contents

pub opening_kept :
    (task : Task) (waits : List Wait) (place : ℕ) (old new : Writer) →
    new.counts.items ≡ old.counts.items → new.new_index.items ≡ old.new_index.items → new.next ≡ old.next →
    new.written.items ≡ old.written.items → IsOpening task waits place old →
    ((queue : IsQueue task (λ x. false) old.new_index.items
    (λ c. IsReady task (λ x. false) old.counts.items c × (c < place)) old.classes.items old.ready) →
    IsQueue task (λ x. false) old.new_index.items
    (λ c. IsReady task (λ x. false) old.counts.items c × (c < place + 1)) new.classes.items
    new.ready) → IsOpening task waits (place + 1) new
opening_kept task waits place old new counts indices next written h queue = record {
  begun = rw (next, indices) h.begun;
  written = ap (map group_of) written ∙ h.written;
  counts = rw counts h.counts;
  queue = rw (counts, indices) (queue h.queue);
}

pub releasing_kept :
    (task : Task) (waits : List Wait) (done after : ℕ → Bool) (before : Section) (at : ℕ)
    (old new : Writer) (lower : List ℕ) → new.counts.items ≡ lower →
    new.new_index.items ≡ old.new_index.items → new.next ≡ old.next →
    new.written.items ≡ old.written.items → IsReleasing task (release_of waits done after) before at old →
    AreOpen task waits done after (at + 1) lower →
    IsQueue task after old.new_index.items (IsReady task after lower) new.classes.items new.ready →
    IsReleasing task (release_of waits done after) before (at + 1) new
releasing_kept task waits done after before at old new lower counts indices next written h opens queue =
    record {
      begun = rw (next, indices) h.begun;
      written = ap (map group_of) written ∙ h.written;
      counts = rw counts opens;
      queue = rw (counts, indices) queue;
    }

-- ---- what a call ensures of each class where it succeeds

pub on_ok_each :
    {T E X : Type 0} (A P : X → Type 0) (r : Result T E) →
    ((k : X) → A k → OnOk r (P k)) → OnOk r ((k : X) → A k → P k)
on_ok_each A P (Ok x) h = h
on_ok_each A P (Err e) h = tt

-- ---- one pair is released

module _ (task : Task) (waits : List Wait) (done after : ℕ → Bool) (before : Section) (at place : ℕ)
    (can : CanRelease task (release_of waits done after))
    (n : IsNext (release_of waits done after) at place) (old new : Writer) (lower : List ℕ)
    (h : IsReleasing task (release_of waits done after) before at old)
    (long : length lower ≡ length old.counts.items)
    (there : (m : ℕ) → slice_get old.counts.items place ≡ Some (m + 1) → slice_get lower place ≡ Some m)
    (others : (other : ℕ) → ¬ (other ≡ place) →
    slice_get lower other ≡ slice_get old.counts.items other)
    (counts : new.counts.items ≡ lower) (indices : new.new_index.items ≡ old.new_index.items)
    (next : new.next ≡ old.next) (written : new.written.items ≡ old.written.items) where
  abbrev count : ℕ
  count = left task waits done after can at place n old.counts.items lower h.counts long there others

  was_count : slice_get old.counts.items place ≡ Some (count + 1)
  was_count = was task waits done after can at place n old.counts.items lower h.counts long there others

  abbrev Now : Type 0
  Now = IsReleasing task (release_of waits done after) before (at + 1) new

  lowered : IsQueue task after old.new_index.items (IsReady task after lower) new.classes.items
      new.ready → Now
  lowered = releasing_kept task waits done after before at old new lower counts indices next written h
      (counts_now task waits done after can at place n old.counts.items lower h.counts long there others)

  pub released_ready :
      ((m : ℕ) → slice_get old.counts.items place ≡ Some (m + 1) → m ≡ 0) →
      ((k : Class) → slice_get old.classes.items place ≡ Some k →
      new.ready ≡ old.ready ++ (queue_key old.new_index.items k, place) ∷ []) →
      map (λ (k : Class). k.first) new.classes.items ≡ map (λ (k : Class). k.first) old.classes.items →
      ((d : ℕ) → ¬ (d ≡ place) → slice_get new.classes.items d ≡ slice_get old.classes.items d) → Now
  released_ready zero put firsts rest = lowered
      (ready_now task waits done after can at place n old.counts.items lower h.counts long there others before
      old.new_index.items old.next h.begun old.classes.items old.ready h.queue new.classes.items
      new.ready (zero count was_count) put firsts rest)

  pub released_waits :
      ((m : ℕ) → slice_get old.counts.items place ≡ Some (m + 1) → ¬ (m ≡ 0)) →
      new.classes.items ≡ old.classes.items → new.ready ≡ old.ready → Now
  released_waits some classes ready = lowered
      (rw (classes, ready) (waits_on task waits done after can at place n old.counts.items lower h.counts long
      there others before old.new_index.items old.next h.begun old.classes.items old.ready h.queue
      (some count was_count)))
