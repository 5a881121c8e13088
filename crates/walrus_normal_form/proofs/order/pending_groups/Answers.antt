use Rattle.std.proofs.Common.{◌≡◌, sym, ap, ◌∙◌}
use Rattle.std.proofs.lemmas.List.{get_or_default}
use Rattle.walrus_normal_form.specs.declared.slot_group.SlotGroup.{SlotGroup}
use Rattle.walrus_normal_form.specs.Steps.PendingGroups.{head, is_free, is_free_at}
use Rattle.walrus_normal_form.specs.Steps.ReadSections.{no_slot_group, slot_group_at}
use Rattle.walrus_normal_form.proofs.Ordering.PendingGroups.{group_left, group_more}
use Rattle.walrus_sections.proofs.Ordering.RunStarts.{run_more}
use Rattle.walrus_normal_form.proofs.order.pending_groups.Goals as goal
use Rattle.walrus_normal_form.proofs.order.pending_groups.Goals.{in-Some+in_ok-push, in_default}

pub loop-place-preserved : goal.loop-place-preserved
loop-place-preserved c =
    let groups = c.args.groups.now in
    let i = c.loop-place.place in
    let here : c.index-groups-place.result ≡ slot_group_at groups i = c.index-groups-place.is
    ∙ get_or_default groups i c.index-groups-place.result no_slot_group c.loop-place-test.true in
    let so_far = c.loop-place.invariant in
    let is_free_here = c.is_free_group-is_free.ensures ∙ ap is_free here in
    let is_head = sym (c.head_of.ensures ∙ ap (λ (g : SlotGroup). head g.group) here) in
    record {
      run = run_more (is_free_at groups) i c.is_free_group-is_free.result c.loop-place.run
          c.run_start-run.result is_free_here so_far.run c.run_start-run.ensures;
      groups = elim c.match-head_of.branch [
        | in-Some+in_ok-push w ↦ rw (w.pending-is, w.in_ok-push.ensures.items)
            (group_more groups i c.loop-place.pending.items so_far.groups c.is_free_group-is_free.result
            c.loop-place.run w.run_start-start.result _ is_free_here so_far.run w.run_start-start.ensures
            (is_head ∙ w.in-Some.is))
        | in_default w ↦ rw w.pending-is
            (group_left groups i c.loop-place.pending.items so_far.groups (is_head ∙ w.in_default.is))
      ];
    }
