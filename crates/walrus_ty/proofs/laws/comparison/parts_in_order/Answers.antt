use Rattle.walrus_ty.specs.declared.ty.composite.CompositeType.TheVariants.{Function, Struct, Array}
use Rattle.walrus_ty.proofs.Orders.{Records.comp_is, Types.kind_is, Values.heap_is, Values.reference_is, Values.storage_is}
use Rattle.walrus_ty.proofs.laws.comparison.parts_in_order.Goals as goal

pub returns : goal.returns
returns c = record {
  heap_types = heap_is;
  references = reference_is;
  storages = storage_is;
  functions = λ f g. kind_is (Function f) (Function g);
  structs = λ s t. kind_is (Struct s) (Struct t);
  arrays = λ a b. kind_is (Array a) (Array b);
  kinds = kind_is;
  section_heap_types = heap_is;
  section_references = reference_is;
  section_storages = storage_is;
  comps = comp_is;
}
