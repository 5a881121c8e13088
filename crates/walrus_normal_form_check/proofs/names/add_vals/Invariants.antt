use Rattle.std.proofs.Common.{◌≡◌, ◌++◌, take}
use Rattle.std.specs.List.{flat_map}
use Rattle.walrus_ty.specs.Value.{val_names}
use Rattle.walrus_normal_form_check.proofs.names.add_vals.Given as goal

abbrev pub invariant-loop-val : goal.invariant-loop-val
invariant-loop-val l = l.names.items ≡ l.fn.names.items ++ flat_map val_names (take l.val-index l.vals)
