use Rattle.walrus_ty.proofs.Names.Renaming.{heap_twice, reference_twice, val_twice, storage_twice, field_twice, composite_twice, definition_twice}
use Rattle.walrus_ty.proofs.record_laws.rename_by_both.Goals as goal

pub returns : goal.returns
returns c = record {
  heap_types = heap_twice;
  references = reference_twice;
  values = val_twice;
  storages = storage_twice;
  fields = field_twice;
  composites = composite_twice;
  definitions = definition_twice;
}
