use Rattle.std.proofs.Common.{◌≡◌, map, take, drop}
use Rattle.std.specs.List.{flat_map}
use Rattle.walrus_ty.specs.{Indices.type_index, Lookups.first_missing, Lookups.value_or_zero, Value.val_names, Value.rename_val}
use Rattle.walrus_ty.proofs.convert.vals_to.Given as goal

abbrev pub invariant-loop-ty : goal.invariant-loop-ty
invariant-loop-ty l = record {
  left : first_missing (type_index l.indices) (flat_map val_names (drop l.ty-index l.types)) ≡ first_missing
      (type_index l.indices) (flat_map val_names l.types);
  done : l.records.items ≡ map (rename_val (value_or_zero (type_index l.indices))) (take l.ty-index l.types);
}
