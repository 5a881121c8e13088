use Rattle.std.proofs.Common.{◌≡◌, map, take, drop}
use Rattle.std.specs.List.{flat_map}
use Rattle.walrus_ty.specs.{IdLists.type_at, Lookups.first_missing, Lookups.value_or_zero, Value.field_names, Value.rename_field}
use Rattle.walrus_ty.proofs.convert.fields_from.Given as goal

abbrev pub invariant-loop-record : goal.invariant-loop-record
invariant-loop-record l = record {
  left : first_missing (type_at l.ids) (flat_map field_names (drop l.record-index l.records)) ≡ first_missing
      (type_at l.ids) (flat_map field_names l.records);
  done : l.types.items ≡ map (rename_field (value_or_zero (type_at l.ids))) (take l.record-index l.records);
}
