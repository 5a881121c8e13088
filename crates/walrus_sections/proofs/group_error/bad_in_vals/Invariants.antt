use Rattle.std.proofs.Common.{◌≡◌, drop, nat_le, find}
use Rattle.std.specs.List.{flat_map}
use Rattle.walrus_ty.specs.Value.{val_names}
use Rattle.walrus_sections.proofs.group_error.bad_in_vals.Given as goal

abbrev pub invariant-loop-val : goal.invariant-loop-val
invariant-loop-val l = find (nat_le l.end) (flat_map val_names l.vals) ≡ find (nat_le l.end)
    (flat_map val_names (drop l.val-index l.vals))
