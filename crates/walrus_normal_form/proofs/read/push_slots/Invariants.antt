use Rattle.std.proofs.Common.{◌≡◌, ◌++◌}
use Rattle.std.specs.List.{range_with_len}
use Rattle.walrus_normal_form.proofs.read.push_slots.Given as goal

abbrev pub invariant-loop-k : goal.invariant-loop-k
invariant-loop-k l = l.slots.items ≡ l.fn.slots.items ++ range_with_len l.first l.k
