use Rattle.walrus_types.specs.{TableEmission.definition_at, Steps.PendingGroups.groups_of}
use Rattle.walrus_ty.specs.Indices.{IsEmpty, type_indices, func_indices, global_indices}
use Rattle.walrus_types.proofs.Emission.WriteLoop.{IsProgress}
use Rattle.walrus_types.proofs.emit.write.write_groups.Given as goal

abbrev pub invariant-loop-item : goal.invariant-loop-item
invariant-loop-item l = record {
  written : IsProgress (definition_at l.table.types.slots) (groups_of l.groups l.pending) l.item-index
      l.written.items (type_indices l.indices);
  funcs : IsEmpty (func_indices l.indices);
  globals : IsEmpty (global_indices l.indices);
}
