use Rattle.std.proofs.Common.{◌≡◌, length, nat_eq}
use Rattle.std.specs.List.{list_any, flat_map}
use Rattle.walrus_ty.specs.Value.{field_names}
use Rattle.walrus_ty.proofs.ty.names.any_field.Given as goal

abbrev pub invariant-loop-field : goal.invariant-loop-field
invariant-loop-field l = list_any (nat_eq l.id) (flat_map field_names l.rest) ≡ list_any (nat_eq l.id)
    (flat_map field_names l.fn.fields)

abbrev pub decreases-loop-field : goal.decreases-loop-field
decreases-loop-field l = length l.rest
