use Rattle.walrus_ty.proofs.Equality.Values.{heap_same, reference_same, val_same, storage_same, field_same, function_same, kind_same}
use Rattle.walrus_ty.proofs.laws.equal_value_types_are_the_same.Goals as goal

pub returns : goal.returns
returns c = record {
  heap_types = heap_same;
  references = reference_same;
  vals = val_same;
  storages = storage_same;
  fields = field_same;
  functions = function_same;
  kinds = kind_same;
}
