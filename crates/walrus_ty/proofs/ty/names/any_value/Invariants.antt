use Rattle.std.proofs.Common.{◌≡◌, length, nat_eq}
use Rattle.std.specs.List.{list_any, flat_map}
use Rattle.walrus_ty.specs.Value.{val_names}
use Rattle.walrus_ty.proofs.ty.names.any_value.Given as goal

abbrev pub invariant-loop-value : goal.invariant-loop-value
invariant-loop-value l = list_any (nat_eq l.id) (flat_map val_names l.rest) ≡ list_any (nat_eq l.id)
    (flat_map val_names l.fn.values)

abbrev pub decreases-loop-value : goal.decreases-loop-value
decreases-loop-value l = length l.rest
