use Rattle.std.proofs.Common.{◌≡◌, ◌<◌, ℕ, false, Some, length, slice_get, slice_index_or}
use Rattle.std.specs.Prelude.{None, if◌then◌else◌}
use Rattle.walrus_canonical.proofs.write.new_indices.Given as goal

abbrev pub invariant-loop-at : goal.invariant-loop-at
invariant-loop-at l =
    (length l.map.items ≡ l.at)
    × ((i slot : ℕ) → i < l.at → slice_get l.slots i ≡ Some slot → slice_get l.map.items i
    ≡ Some (if slice_index_or l.needed i false then slice_get l.new_index slot else None))
