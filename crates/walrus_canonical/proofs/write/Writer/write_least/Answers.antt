use Rattle.std.proofs.Common.{◌≡◌, ◌∙◌, ◌++◌, ◌∷◌, [], List, length, map, slice_get, inl, refl, ap}
use Rattle.std.proofs.lemmas.Result.{on_ok_weaker}
use Rattle.walrus_ty.specs.Definition.{rename}
use Rattle.walrus_ty.specs.Groups.{Section}
use Rattle.walrus_ty.specs.Records.{entry_definition}
use Rattle.walrus_canonical.specs.declared.classes.Class.{Class}
use Rattle.walrus_canonical.specs.Greedy.{plain_group}
use Rattle.walrus_canonical.specs.Steps.Renamings.{renamed}
use Rattle.walrus_canonical.specs.Steps.Shown.{own_base}
use Rattle.walrus_canonical.specs.Steps.Writing.{IsReady}
use Rattle.walrus_canonical.proofs.Output.LeastWritten.{outcome}
use Rattle.walrus_canonical.proofs.Output.OrderedQueues.{not_none}
use Rattle.walrus_canonical.proofs.Output.Queues.{queue_apart, queued_anew}
use Rattle.walrus_canonical.proofs.write.Writer.write_least.Goals as goal

pub returns-in_ok-write_group-in-Some : goal.returns-in_ok-write_group-in-Some
returns-in_ok-write_group-in-Some c =
    let old = c.args.self.now in
    let mid = c.write_group.new.self in
    let rest = c.pop_least.new.self in
    let entries = c.into_entries-entries.result in
    let count : c.len.result ≡ length entries = c.len.ensures in
    on_ok_weaker c.release.result (λ released task done before are h.
    let apart = queue_apart task done before old.new_index.items old.next h.begun old.counts.items
    old.classes.items old.ready h.queue in
    let taken = (rw c.in-Some.is at c.in_ok-group.ensures) apart in
    let queue = queued_anew task done old.new_index.items (IsReady task done old.counts.items)
    old.classes.items old.ready ((c.in-Some.group, c.in-Some.place) ∷ rest) h.queue taken.0 in
    outcome task c.args.waits.now are done before old.new_index.items old.next h.begun old.counts.items
    h.counts
    old.classes.items c.in-Some.group c.in-Some.place rest queue taken.1 c.first_slot-first.result
    c.len.result
    c.saturating_add-end.result
    (λ k at. c.first_slot-first.ensures k
    (ap (λ (cs : List Class). slice_get cs c.in-Some.place) c.as_slice.ensures.value ∙ at))
    entries c.into_entries-entries.ensures count
    c.saturating_add-end.ensures mid.new_index.items mid.next c.in_ok-write_group-in-Some.ensures.given
    c.in_ok-write_group-in-Some.ensures.indices c.in_ok-write_group-in-Some.ensures.next old mid
    c.release.new.self
    (not_none old.ready (c.in-Some.group, c.in-Some.place) rest taken.0) refl refl
    (c.in_ok-write_group-in-Some.ensures.written ∙ ap (λ (gs : Section). gs ++ plain_group
    (map (rename (renamed (own_base (length entries)) [] old.next)) (map entry_definition entries)) ∷ [])
    h.written) c.in_ok-write_group-in-Some.ensures.counts c.in_ok-write_group-in-Some.ensures.classes
    c.in_ok-write_group-in-Some.ensures.ready (released task done _)) c.release.ensures

pub returns-in-None : goal.returns-in-None
returns-in-None c = λ task done before are h. (
    let old = c.args.self.now in
    let apart = queue_apart task done before old.new_index.items old.next h.begun old.counts.items
    old.classes.items old.ready h.queue in
    let none = (rw c.in-None.is at c.in_ok-group.ensures) apart in
    inl (
      none.0,
      none.1,
      record {
        begun = h.begun;
        written = h.written;
        counts = h.counts;
        queue = rw (none.1, ← none.0) h.queue;
      },
    ))
