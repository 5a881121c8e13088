use Rattle.std.proofs.Common.{◌≡◌, ℕ, ◌<◌, take, map, Some, None}
use Rattle.std.specs.List.{slice_get}
use Rattle.walrus_ty.specs.{Definition.names_of, Indices.type_index, Lookups.first_missing, Records.entry_definition}
use Rattle.walrus_types.specs.TableEmission.{definition_at}
use Rattle.walrus_sections.specs.WritingOrders.{with_indices}
use Rattle.walrus_types.proofs.emit.write.entries_of.Given as goal

abbrev pub invariant-loop-id : goal.invariant-loop-id
invariant-loop-id l = record {
  done : map entry_definition l.entries.items ≡ map
      (with_indices (type_index l.indices) (definition_at l.table.types.slots)) (take l.id-index l.ids);
  complete : (u i : ℕ) → u < l.id-index → slice_get l.ids u ≡ Some i →
      first_missing (type_index l.indices) (names_of (definition_at l.table.types.slots i)) ≡ None;
}
