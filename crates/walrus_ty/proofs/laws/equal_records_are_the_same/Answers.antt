use Rattle.walrus_ty.proofs.Equality.Values.{heap_same, reference_same, val_same, storage_same, field_same, comp_same, entry_same, group_same}
use Rattle.walrus_ty.proofs.laws.equal_records_are_the_same.Goals as goal

pub returns : goal.returns
returns c = record {
  heap_types = heap_same;
  references = reference_same;
  vals = val_same;
  storages = storage_same;
  fields = field_same;
  comps = comp_same;
  entries = entry_same;
  groups = group_same;
}
