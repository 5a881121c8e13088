-- One class after the other is written, until the queue is empty.
use Rattle.std.proofs.Common.{◌≡◌, ℕ, Bool, ◌+◌, ◌≤◌, List, [], map, ◌⊎◌, inl, inr, arith}
use Rattle.walrus_ty.specs.Groups.{Section}
use Rattle.walrus_ty.specs.Records.{group_of}
use Rattle.walrus_sections.specs.Section.{index_space}
use Rattle.walrus_canonical.specs.declared.waiting.Wait.{Wait}
use Rattle.walrus_canonical.specs.declared.write.Writer.{Writer}
use Rattle.walrus_canonical.specs.Steps.Waits.{AreWaits}
use Rattle.walrus_canonical.specs.Steps.Writing.{Task, IsWriting, IsWrittenWhole, HasWritten}
use Rattle.walrus_canonical.proofs.Output.FinishedSections.{all_written}
use Rattle.walrus_canonical.proofs.Output.LeastWritten.{none_ready}

-- after so many turns as many types are written, or there is nothing left to write
pub record HasTurned (task : Task) (waits : List Wait) (turn : ℕ) (w : Writer) : Type 0 where
  pub done : ℕ → Bool
  pub before : Section
  pub writing : IsWriting task waits done before w
  pub many : (turn ≤ (index_space before).count) ⊎ (w.ready ≡ [])

pub first_turn :
    (task : Task) (waits : List Wait) (done : ℕ → Bool) (w : Writer) → IsWriting task waits done [] w →
    HasTurned task waits 0 w
first_turn task waits done w h = record { done = done; before = []; writing = h; many = inl (omega arith) }

pub next_turn :
    (task : Task) (waits : List Wait) (turn : ℕ) (old new : Writer) (h : HasTurned task waits turn old) →
    HasWritten task waits h.done h.before old new → HasTurned task waits (turn + 1) new
next_turn task waits turn old new h (inl x) = record {
  done = h.done;
  before = h.before;
  writing = x.2;
  many = inr x.1;
}
next_turn task waits turn old new h (inr x) = record {
  done = x.0;
  before = x.1;
  writing = x.4;
  many = inl (elim h.many [
    | inl few ↦ omega (arith, few, x.3)
    | inr none ↦ absurd (x.2 none)
  ]);
}

pub last_turn :
    (task : Task) (waits : List Wait) (turn : ℕ) (w : Writer) → AreWaits task.classes waits →
    (index_space task.section).count ≤ turn → HasTurned task waits turn w →
    IsWrittenWhole task (map group_of w.written.items) w.new_index.items
last_turn task waits turn w are all h =
    let r = h.writing in
    let none : w.ready ≡ [] = elim h.many [
      | inr x ↦ x
      | inl full ↦ none_ready task waits h.done h.before w.new_index.items w.next r.begun w.counts.items
          w.classes.items w.ready r.queue (omega (arith, all, full))
    ] in
    rw r.written (all_written task waits are h.done h.before w.new_index.items w.next r.begun w.counts.items
    r.counts w.classes.items (rw none at r.queue))
