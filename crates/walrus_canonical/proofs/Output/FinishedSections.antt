-- What is written when the queue is empty is the canonical form.
use Rattle.std.proofs.Common.{◌≡◌, ℕ, Bool, false, ◌<◌, List, [], length, replicate, slice_get, slice_index_or, Some, None, ◌∙◌, refl, sym, ap, subst, arith}
use Rattle.std.specs.Prelude.{if◌then◌else◌}
use Rattle.std.proofs.lemmas.List.{length-replicate}
use Rattle.std.proofs.lemmas.Option.{same_Some, slice_get-get_or, get_or_from_slice_get}
use Rattle.walrus_ty.specs.Groups.{Section}
use Rattle.walrus_sections.specs.Section.{IndexSpace, index_space}
use Rattle.walrus_canonical.specs.declared.classes.Class.{Class}
use Rattle.walrus_canonical.specs.declared.waiting.Wait.{Wait}
use Rattle.walrus_canonical.specs.EqualTypes.{AreEqual}
use Rattle.walrus_canonical.specs.Greedy.{AreNewIndices}
use Rattle.walrus_canonical.specs.Listing.{IsNeeded, NewIndices, new_index}
use Rattle.walrus_canonical.specs.Steps.Classes.{slot_of}
use Rattle.walrus_canonical.specs.Steps.Marks.{IsMarked}
use Rattle.walrus_canonical.specs.Steps.Waits.{AreWaits}
use Rattle.walrus_canonical.specs.Steps.WrittenIndices.{AreIndicesBySlot}
use Rattle.walrus_canonical.specs.Steps.Writing.{Task, IsBegun, IsQueue, IsReady, AreOpen, IsWrittenWhole}
use Rattle.walrus_canonical.proofs.Forms.Existence.{begins_empty, none_left, ends}
use Rattle.walrus_canonical.proofs.Forms.Indices.{some_of, is_some_at, index_within}
use Rattle.walrus_canonical.proofs.Output.LeastReady.{none_comes}
use Rattle.walrus_canonical.proofs.Needs.NeedsMarked.{marked_within}
use Rattle.std.proofs.lemmas.Bool.{true_from_ne_false}
use Rattle.walrus_canonical.proofs.Output.ReadyGroups.{mark_of_need, needed_of_mark, done_if_there}

-- ---- nothing is written

pub nothing_begun :
    (task : Task) (zeros : List ℕ) → zeros ≡ replicate task.slot_count 0 →
    IsBegun task (λ x. false) [] zeros 0
nothing_begun task zeros e = record {
  beginning = begins_empty task.section task.roots task.well task.known;
  next_is = refl;
  one_each = ap (λ (xs : List ℕ). length xs) e ∙ length-replicate {A = ℕ} task.slot_count 0;
  whole = λ c place class at low. refl;
  equal = λ i m d. absurd cc;
  onto = λ p low. absurd (omega (arith, low));
}

-- ---- all is written

module _ (task : Task) (done : ℕ → Bool) (before : Section) (by_slot : List ℕ) (next : ℕ)
    (b : IsBegun task done before by_slot next)
    (all : (j : ℕ) → IsNeeded (index_space task.section) task.roots j →
    (p : ℕ) × AreEqual (index_space task.section) (index_space before) j p)
    (indices : NewIndices) (a : AreIndicesBySlot task.slots task.marks by_slot indices) where
  abbrev T : IndexSpace
  T = index_space task.section

  item : (i : ℕ) → i < length task.slots →
      new_index indices i ≡ (if slice_index_or task.marks i false then slice_get by_slot
      (slot_of task.slots i)
      else None)
  item i low =
      let at = slice_get-get_or task.slots i 0 low in
      get_or_from_slice_get indices i
      (if slice_index_or task.marks i false then slice_get by_slot (slot_of task.slots i) else None) None
      (a.each i (slot_of task.slots i) at)

  mark_low : (i : ℕ) → IsMarked task.marks i → i < length task.slots
  mark_low i m =
      omega (arith, marked_within task.marks i m, task.needs.one_each, task.are.one_each)

  item_marked : (i : ℕ) → IsMarked task.marks i →
      new_index indices i ≡ Some (slot_of by_slot (slot_of task.slots i))
  item_marked i m =
      let size = b.one_each in
      item i (mark_low i m)
      ∙ (ap (λ (t : Bool). if t then slice_get by_slot (slot_of task.slots i) else None) m
      ∙ slice_get-get_or by_slot (slot_of task.slots i) 0 (omega (arith, task.are.within i m, size)))

  marked_if_some : (i p : ℕ) → new_index indices i ≡ Some p → IsMarked task.marks i
  marked_if_some i p e = true_from_ne_false (slice_index_or task.marks i false) (λ f. (
      let none : new_index indices i ≡ None = item i (omega (arith, index_within indices i p e, a.long))
      ∙ ap (λ (t : Bool). if t then slice_get by_slot (slot_of task.slots i) else None) f in
      let z : None ≡ Some p = sym none ∙ e in cc))

  pub are_new : AreNewIndices task.section task.roots before indices
  are_new = record {
    one_each = a.long ∙ task.are.one_each;
    needed = λ i. (
      λ s. (let p = some_of (new_index indices i) s in needed_of_mark task i (marked_if_some i p.0 p.1)),
      λ n. is_some_at (new_index indices i) (slot_of by_slot (slot_of task.slots i))
          (item_marked i (mark_of_need task i n)),
    );
    equal = λ i p e. (
        let m = marked_if_some i p e in
        let q = all i (needed_of_mark task i m) in
        let d = done_if_there task done before by_slot next b i q.0 m q.1 in
        let is = same_Some (slot_of by_slot (slot_of task.slots i)) p (sym (item_marked i m) ∙ e) in
        subst (λ (u : ℕ). AreEqual T (index_space before) i u) is (b.equal i m d));
  }

pub all_written :
    (task : Task) (waits : List Wait) (are : AreWaits task.classes waits) (done : ℕ → Bool)
    (before : Section) (by_slot : List ℕ) (next : ℕ) (b : IsBegun task done before by_slot next)
    (counts : List ℕ) (opens : AreOpen task waits done done 0 counts) (now : List Class) →
    IsQueue task done by_slot (IsReady task done counts) now [] → IsWrittenWhole task before by_slot
all_written task waits are done before by_slot next b counts opens now queue indices a =
    let none = none_comes task waits are done before by_slot next b counts opens now queue in
    let all = none_left task.section task.roots task.well task.known before b.beginning none in
    ends task.section task.roots task.well task.known before indices b.beginning
    (are_new task done before by_slot next b all indices a)
