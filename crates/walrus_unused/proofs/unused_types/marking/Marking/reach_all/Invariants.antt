use Rattle.std.proofs.Common.{◌≡◌, take}
use Rattle.walrus_unused.specs.Steps.Marking.{with_all_group_marks}
use Rattle.walrus_unused.proofs.unused_types.marking.Marking.reach_all.Given as goal

abbrev pub invariant-loop-id : goal.invariant-loop-id
invariant-loop-id l = l.self ≡ with_all_group_marks l.types (take l.id-index l.ids) l.fn.self
