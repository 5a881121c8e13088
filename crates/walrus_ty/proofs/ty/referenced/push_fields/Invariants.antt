use Rattle.std.proofs.Common.{◌≡◌, ◌++◌, take}
use Rattle.std.specs.List.{flat_map}
use Rattle.walrus_ty.specs.Value.{field_names}
use Rattle.walrus_ty.proofs.ty.referenced.push_fields.Given as goal

abbrev pub invariant-loop-field : goal.invariant-loop-field
invariant-loop-field l = l.list.items ≡ l.fn.list.items ++ flat_map field_names (take l.field-index l.fields)
