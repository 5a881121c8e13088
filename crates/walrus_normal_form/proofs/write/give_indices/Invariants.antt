use Rattle.std.proofs.Common.{◌≡◌, ◌+◌, ◌<◌, ◌≤◌, ◌⊎◌, ℕ, Some, length, slice_get}
use Rattle.walrus_normal_form.proofs.write.give_indices.Given as goal

abbrev pub invariant-loop-slot : goal.invariant-loop-slot
invariant-loop-slot l = record {
  next : l.index + l.first ≡ l.next + l.slot;
  long : length l.new_index.items ≡ length l.fn.new_index.items;
  given : (t : ℕ) → l.first + t < l.slot → slice_get l.new_index.items (l.first + t) ≡ Some (l.next + t);
  kept : (i : ℕ) → (i < l.first) ⊎ (l.slot ≤ i) →
      slice_get l.new_index.items i ≡ slice_get l.fn.new_index.items i;
}
