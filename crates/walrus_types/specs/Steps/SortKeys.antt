-- The sort key of a type: that of what it is composed of.
-- Of this crate's own working; it serves the order of types, in which a table is written.
-- WebAssembly core specification, "Types", composite types.
use Rattle.walrus_ty.specs.declared.ty.composite.CompositeType.{CompositeType}
use Rattle.walrus_ty.specs.Types.{ModuleType, kind_composite}
use Rattle.walrus_normal_form.specs.SortKeys.{SortKey, composite_sort_key}

abbrev pub kind_sort_key : CompositeType → SortKey
kind_sort_key kind = composite_sort_key (kind_composite kind)

abbrev pub type_sort_key : ModuleType → SortKey
type_sort_key ty = kind_sort_key ty.kind
