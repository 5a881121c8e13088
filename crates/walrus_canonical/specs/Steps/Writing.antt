-- A section that is written class by class.
-- Of this crate's own.
use Rattle.std.specs.Prelude.{◌≡◌, ℕ, ◌+◌, ◌-◌, ◌%◌, ◌<◌, Bool, true, false, cond, nat_lt, List, [], length, map, take, drop, Some, slice_get, Contains, ◌⊎◌}
use Rattle.walrus_ty.specs.Definition.{Definition}
use Rattle.walrus_ty.specs.Groups.{Section}
use Rattle.walrus_ty.specs.Records.{group_of}
use Rattle.walrus_sections.specs.Section.{index_space, IsWellNamed}
use Rattle.walrus_canonical.specs.declared.classes.Class.{Class}
use Rattle.walrus_canonical.specs.declared.waiting.Wait.{Wait}
use Rattle.walrus_canonical.specs.declared.write.Writer.{Writer}
use Rattle.walrus_canonical.specs.EqualTypes.{IsMember, NamesOutside, AreEqual}
use Rattle.walrus_canonical.specs.Greedy.{IsBeginning}
use Rattle.walrus_canonical.specs.Keys.{IsKey}
use Rattle.walrus_canonical.specs.Listing.{AreIndices, IsCanonical, NewIndices}
use Rattle.walrus_canonical.specs.Steps.Queues.{HasEachOnce}
use Rattle.walrus_canonical.specs.Steps.Classes.{slot_of, AreClasses}
use Rattle.walrus_canonical.specs.Steps.Marks.{IsMarked, MarkNeeds}
use Rattle.walrus_canonical.specs.Steps.Waits.{AreWaits, open_count}
use Rattle.walrus_canonical.specs.Steps.WrittenIndices.{AreIndicesBySlot}

-- what is to be written: the classes of what some roots of a section need
pub record Task : Type 0 where
  pub section : Section
  pub roots : List ℕ
  pub marks : List Bool
  pub slots : List ℕ
  pub slot_count : ℕ
  pub classes : List Class
  pub well : IsWellNamed section
  pub known : AreIndices section roots
  pub needs : MarkNeeds section roots marks
  pub are : AreClasses section marks slots slot_count classes

-- Which slots are written is a test of slots. These are written too: from the first one up to the end.
abbrev pub with_slots : (ℕ → Bool) → ℕ → ℕ → ℕ → Bool
with_slots done first end slot =
    cond (nat_lt slot first) (done slot) (cond (nat_lt slot end) true (done slot))

-- the written slots have the indices of equal types in the section that was written, which begins as
-- the canonical form does
pub record IsBegun (task : Task) (done : ℕ → Bool) (before : Section) (new_index : List ℕ) (next : ℕ) :
    Type 0 where
  pub beginning : IsBeginning task.section task.roots before
  pub next_is : next ≡ (index_space before).count
  pub one_each : length new_index ≡ task.slot_count
  -- a class is written as a whole
  pub whole :
      (c place : ℕ) (class : Class) → slice_get task.classes c ≡ Some class →
      place < length class.entries → done (class.first + place) ≡ done class.first
  pub equal :
      (i : ℕ) → IsMarked task.marks i → done (slot_of task.slots i) ≡ true →
      AreEqual (index_space task.section) (index_space before) i
      (slot_of new_index (slot_of task.slots i))
  pub onto :
      (p : ℕ) → p < (index_space before).count → (i : ℕ) × IsMarked task.marks i
      × (done (slot_of task.slots i) ≡ true)
      × AreEqual (index_space task.section) (index_space before) i p

-- the number of a place of a group that is ready
abbrev pub ready_number : ℕ → ℕ
ready_number place = 4294967296 + place

-- the index that such a number gets where the next index is this one
abbrev pub settled : ℕ → ℕ → ℕ
settled next number =
    cond (nat_lt number 4294967296) number ((number - 4294967296 + next) % 4294967296)

-- the definitions of a class, where an index into the group is the number of its place, and any other
-- one the new index of its slot, which is written
pub record IsReadyAs (task : Task) (done : ℕ → Bool) (new_index : List ℕ) (class : Class)
    (definitions : List Definition) : Type 0 where
  pub head : ℕ
  pub marked : IsMarked task.marks head
  pub member : IsMember (index_space task.section) head 0 head
  pub slot : slot_of task.slots head ≡ class.first
  pub size : length definitions ≡ length class.entries
  pub key :
      IsKey (index_space task.section) ready_number (λ x. slot_of new_index (slot_of task.slots x)) head
      definitions
  pub outer :
      (x : ℕ) → NamesOutside (index_space task.section) head x → done (slot_of task.slots x) ≡ true

-- the queue has exactly the classes that are ready, and the others that are not written have their
-- records
pub record IsQueue (task : Task) (done : ℕ → Bool) (new_index : List ℕ) (ready : ℕ → Type 0)
    (now : List Class) (queue : List (List Definition × ℕ)) : Type 0 where
  pub queued :
      (ds : List Definition) (c : ℕ) → Contains queue (ds, c) → ready c × ((class : Class)
      × (slice_get task.classes c ≡ Some class) × IsReadyAs task done new_index class ds)
  pub there : (c : ℕ) → ready c → (ds : List Definition) × Contains queue (ds, c)
  pub once : HasEachOnce queue
  pub firsts :
      (c : ℕ) (class : Class) → slice_get task.classes c ≡ Some class → (k : Class)
      × (slice_get now c ≡ Some k) × (k.first ≡ class.first)
  pub left :
      (c : ℕ) (class : Class) → slice_get task.classes c ≡ Some class → ¬ (ready c) →
      done class.first ≡ false → slice_get now c ≡ Some class

-- a class is ready where it is not written and waits for nothing
abbrev pub IsReady : Task → (ℕ → Bool) → List ℕ → ℕ → Type 0
IsReady task done counts c =
    (class : Class) × (slice_get task.classes c ≡ Some class) × (done class.first ≡ false)
    × (slice_get counts c ≡ Some 0)

-- the counts of open waits, where those before a place are counted by one test, and the others by
-- another
pub record AreOpen (task : Task) (waits : List Wait) (done after : ℕ → Bool) (at : ℕ)
    (counts : List ℕ) : Type 0 where
  pub one_each : length counts ≡ length task.classes
  pub each :
      (c : ℕ) → c < length counts → slice_get counts c
      ≡ Some (open_count after (take at waits) c + open_count done (drop at waits) c)

-- Once a group is written, the pairs are released that waited for it: those by whose slots the test of
-- what is written before and that of what is written after differ.
pub record Release : Type 0 where
  pub waits : List Wait
  pub done : ℕ → Bool
  pub after : ℕ → Bool

abbrev pub release_of : List Wait → (ℕ → Bool) → (ℕ → Bool) → Release
release_of waits done after = record { waits = waits; done = done; after = after }

-- the writer has written these groups, and of the pairs up to a place it has released those that wait
-- for the last one
pub record IsReleasing (task : Task) (r : Release) (before : Section) (at : ℕ) (w : Writer) :
    Type 0 where
  pub begun : IsBegun task r.after before w.new_index.items w.next
  pub written : map group_of w.written.items ≡ before
  pub counts : AreOpen task r.waits r.done r.after at w.counts.items
  pub queue :
      IsQueue task r.after w.new_index.items (IsReady task r.after w.counts.items) w.classes.items
      w.ready

-- no class that waits in a pair that is released is written
pub record CanRelease (task : Task) (r : Release) : Type 0 where
  pub are : AreWaits task.classes r.waits
  pub more : (x : ℕ) → r.done x ≡ true → r.after x ≡ true
  pub waiting :
      (w : Wait) (class : Class) → Contains r.waits w → slice_get task.classes w.waiting ≡ Some class →
      r.done w.named ≡ false → r.after class.first ≡ false

-- this pair is the next one to be released
pub record IsNext (r : Release) (at place : ℕ) : Type 0 where
  pub wait : Wait
  pub there : slice_get r.waits at ≡ Some wait
  pub place_is : wait.waiting ≡ place
  pub opens : r.done wait.named ≡ false
  pub closed : r.after wait.named ≡ true

-- nothing is written, and of the classes before this place those that wait for nothing are ready
pub record IsOpening (task : Task) (waits : List Wait) (place : ℕ) (w : Writer) : Type 0 where
  pub begun : IsBegun task (λ x. false) [] w.new_index.items w.next
  pub written : map group_of w.written.items ≡ []
  pub counts : AreOpen task waits (λ x. false) (λ x. false) 0 w.counts.items
  pub queue :
      IsQueue task (λ x. false) w.new_index.items
      (λ c. IsReady task (λ x. false) w.counts.items c × (c < place)) w.classes.items w.ready

-- the writer has written these groups
abbrev pub IsWriting : Task → List Wait → (ℕ → Bool) → Section → Writer → Type 0
IsWriting task waits done before w = IsReleasing task (release_of waits done done) before 0 w

-- the writer had nothing to write, or has written one more group
abbrev pub HasWritten : Task → List Wait → (ℕ → Bool) → Section → Writer → Writer → Type 0
HasWritten task waits done before old new =
    ((old.ready ≡ []) × (new.ready ≡ []) × IsWriting task waits done before new)
    ⊎ ((after : ℕ → Bool) × (more : Section) × (¬ (old.ready ≡ []))
    × ((index_space before).count < (index_space more).count) × IsWriting task waits after more new)

-- what is written is the canonical form: where each needed index has what its slot has
abbrev pub IsWrittenWhole : Task → Section → List ℕ → Type 0
IsWrittenWhole task written new_index =
    (indices : NewIndices) → AreIndicesBySlot task.slots task.marks new_index indices →
    IsCanonical task.section task.roots written indices
