use Rattle.std.proofs.Common.{◌≡◌, ◌∙◌, subst}
use Rattle.std.proofs.lemmas.Result.{IfOk-weaker}
use Rattle.walrus_unused.specs.Steps.Marking.{no_marks}
use Rattle.walrus_unused.proofs.UnusedTypes.Listing.{unused_from, covered_from}
use Rattle.walrus_unused.proofs.unused_types.unused_types.Goals as goal

pub mark_needed-requires-clause-covers : goal.mark_needed-requires-clause-covers
mark_needed-requires-clause-covers c =
    let t = c.args.types.now in
    covered_from t c.in_ok-marking.marking c.rec_groups-groups.ensures.grouping
    (subst (λ n. c.in_ok-marking.marking ≡ no_marks n) (c.index.ensures ∙ c.next_id.ensures)
    c.in_ok-marking.ensures)

pub returns-clause-unused : goal.returns-clause-unused
returns-clause-unused c =
    let t = c.args.types.now in
    let s = c.mark_needed.new.self in
    let shown = c.as_slice.ensures.value in
    let listed = c.in_ok-live.ensures in
    IfOk-weaker c.unmarked_ids.result _ _ (λ v is.
    unused_from t c.args.roots.now s v.items c.in_ok-mark_needed.ensures (rw listed at (rw shown at is)))
    c.unmarked_ids.ensures
