use Rattle.std.proofs.Common.{◌≡◌, drop, not}
use Rattle.std.specs.List.{list_any}
use Rattle.walrus_types.specs.TableEmission.{is_entry_at}
use Rattle.walrus_types.proofs.emit.free.is_written_group.Given as goal

abbrev pub invariant-loop-id : goal.invariant-loop-id
invariant-loop-id l = list_any (λ i. not (is_entry_at l.table.types.slots i)) (drop l.id-index l.id-items) ≡
    list_any (λ i. not (is_entry_at l.table.types.slots i)) l.group.types
