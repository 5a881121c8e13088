use Rattle.std.proofs.Common.{◌≡◌, ◌++◌, map, take, drop, length}
use Rattle.walrus_sections.specs.NormalForm.{image}
use Rattle.walrus_normal_form.proofs.write.new_indices.Given as goal

abbrev pub invariant-loop-at : goal.invariant-loop-at
invariant-loop-at l = record {
  long : length l.slots.items ≡ length l.fn.slots.items;
  items : l.slots.items ≡ map (image l.new_index) (take l.at l.fn.slots.items) ++ drop l.at l.fn.slots.items;
}
