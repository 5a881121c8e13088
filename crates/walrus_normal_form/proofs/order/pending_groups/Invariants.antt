use Rattle.std.proofs.Common.{◌≡◌}
use Rattle.walrus_normal_form.specs.Steps.PendingGroups.{ArePending, is_free_at}
use Rattle.walrus_sections.specs.RunStarts.{run_start}
use Rattle.walrus_normal_form.proofs.order.pending_groups.Given as goal

abbrev pub invariant-loop-place : goal.invariant-loop-place
invariant-loop-place l = record {
  run : l.run ≡ run_start (is_free_at l.groups) l.place;
  groups : ArePending l.groups l.place l.pending.items;
}
