use Rattle.std.proofs.Common.{◌≡◌, ◌<◌, ◌^◌, take}
use Rattle.walrus_types.specs.TableEmission.{type_groups, is_entry_at}
use Rattle.walrus_sections.specs.Refusal.{written_count}
use Rattle.walrus_types.proofs.emit.counts_too_many.Given as goal

abbrev pub invariant-loop-group : goal.invariant-loop-group
invariant-loop-group l = record {
  counted : l.count ≡ written_count (is_entry_at l.table.types.slots)
      (type_groups (take l.group-index l.groups));
  few : l.count < 2 ^ 32;
}
