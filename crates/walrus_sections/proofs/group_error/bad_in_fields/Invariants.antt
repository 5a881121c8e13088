use Rattle.std.proofs.Common.{◌≡◌, drop, nat_le, find}
use Rattle.std.specs.List.{flat_map}
use Rattle.walrus_ty.specs.Value.{field_names}
use Rattle.walrus_sections.proofs.group_error.bad_in_fields.Given as goal

abbrev pub invariant-loop-field : goal.invariant-loop-field
invariant-loop-field l = find (nat_le l.end) (flat_map field_names l.fields) ≡ find (nat_le l.end)
    (flat_map field_names (drop l.field-index l.fields))
