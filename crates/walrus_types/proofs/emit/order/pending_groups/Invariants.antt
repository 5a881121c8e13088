use Rattle.std.proofs.Common.{◌≡◌}
use Rattle.walrus_types.specs.Steps.{FreeGroups.is_free_at, PendingGroups.pending_groups}
use Rattle.walrus_sections.specs.RunStarts.{run_start}
use Rattle.walrus_types.proofs.emit.order.pending_groups.Given as goal

abbrev pub invariant-loop-place : goal.invariant-loop-place
invariant-loop-place l = record {
  run : l.run ≡ run_start (is_free_at l.table.types.slots l.groups) l.place;
  groups : l.pending.items ≡ pending_groups l.table.types.slots l.groups l.place;
}
