use Rattle.std.proofs.Common.{◌≡◌, ◌++◌, take}
use Rattle.std.specs.List.{flat_map}
use Rattle.walrus_ty.specs.Value.{val_names}
use Rattle.walrus_ty.proofs.ty.referenced.push_values.Given as goal

abbrev pub invariant-loop-value : goal.invariant-loop-value
invariant-loop-value l = l.list.items ≡ l.fn.list.items ++ flat_map val_names (take l.value-index l.values)
