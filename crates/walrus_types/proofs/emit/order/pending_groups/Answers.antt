use Rattle.std.proofs.Common.{◌≡◌, sym, ap, ◌∙◌, ℕ, Bool, Option}
use Rattle.std.proofs.lemmas.List.{get_or_default}
use Rattle.walrus_ty.specs.Types.{ModuleType}
use Rattle.walrus_types.specs.Table.{no_rec_group, rec_group_at}
use Rattle.walrus_types.specs.Steps.FreeGroups.{head, is_free, is_free_at, is_written_at, is_written_group}
use Rattle.walrus_sections.proofs.Ordering.RunStarts.{run_more}
use Rattle.walrus_types.proofs.Emission.SortedGroups.{group_more, group_left}
use Rattle.walrus_types.proofs.emit.order.pending_groups.Goals as goal
use Rattle.walrus_types.proofs.emit.order.pending_groups.Goals.{then-is_written_group+in_ok-push, else-is_written_group}

pub loop-place-preserved : goal.loop-place-preserved
loop-place-preserved c =
    let slots = c.args.table.now.types.slots in
    let groups = c.args.groups.now in
    let free : ℕ → Bool = is_free_at slots groups in
    let written : ℕ → Bool = is_written_at slots groups in
    let heads : ℕ → Option ModuleType = λ g. head slots (rec_group_at groups g) in
    let i = c.loop-place.place in
    let g = c.index-groups-place.result in
    let here : g ≡ rec_group_at groups i = c.index-groups-place.is
    ∙ get_or_default groups i g no_rec_group c.loop-place-test.true in
    let so_far = c.loop-place.invariant in
    let is_free_here = c.is_free_group-is_free.ensures ∙ ap (is_free slots) here in
    let is_written_here = c.is_written_group.ensures ∙ ap (is_written_group slots) here in
    record {
      run = run_more free i c.is_free_group-is_free.result c.loop-place.run c.run_start-run.result
          is_free_here so_far.run c.run_start-run.ensures;
      groups = elim c.if-is_written_group.branch [
        | then-is_written_group+in_ok-push w ↦ rw (w.pending-is, w.in_ok-push.ensures.items)
            (group_more free written heads i c.loop-place.pending.items so_far.groups
            c.is_free_group-is_free.result c.loop-place.run w.run_start-start.result w.head_of-head.result
            is_free_here so_far.run w.run_start-start.ensures (w.head_of-head.ensures ∙ ap (head slots) here)
            (sym is_written_here ∙ w.if-is_written_group.true))
        | else-is_written_group w ↦ rw w.pending-is
            (group_left free written heads i c.loop-place.pending.items so_far.groups (sym is_written_here
            ∙ w.if-is_written_group.false))
      ];
    }
