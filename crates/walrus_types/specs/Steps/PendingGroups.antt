-- The groups of a table that are to be written.
-- Of this crate's own working; it serves the writing of a table as a type section. WebAssembly core
-- specification, "Modules", types.
use Rattle.std.specs.Prelude.{ℕ, List, filter, map}
use Rattle.std.specs.List.{range_with_len}
use Rattle.walrus_types.specs.declared.emit.order.PendingGroup.{PendingGroup}
use Rattle.walrus_types.specs.declared.table.rec_group.RecGroup.{RecGroup}
use Rattle.walrus_types.specs.TypesById.{TypeSlots}
use Rattle.walrus_types.specs.Table.{rec_group_at}
use Rattle.walrus_sections.specs.RunStarts.{start_of}
use Rattle.walrus_sections.specs.SlotMap.{TypeGroup}
use Rattle.walrus_types.specs.TableEmission.{type_groups}
use Rattle.walrus_sections.specs.WritingOrders.{in_order}
use Rattle.walrus_types.specs.Steps.FreeGroups.{head, is_free_at, is_written_at}

-- the group at this place, with what it is sorted by
abbrev pub pending_group : TypeSlots → List RecGroup → ℕ → PendingGroup
pending_group slots groups g =
    record {
      start = start_of (is_free_at slots groups) g;
      head = head slots (rec_group_at groups g);
      place = g;
    }

-- those of the first n groups that are written
abbrev pub pending_groups : TypeSlots → List RecGroup → ℕ → List PendingGroup
pending_groups slots groups n =
    map (pending_group slots groups) (filter (is_written_at slots groups) (range_with_len 0 n))

abbrev pub places_of : List PendingGroup → List ℕ
places_of ps = map (λ p. p.place) ps

-- the groups that these stand for
abbrev pub groups_of : List RecGroup → List PendingGroup → List TypeGroup
groups_of groups ps = in_order (type_groups groups) (places_of ps)
