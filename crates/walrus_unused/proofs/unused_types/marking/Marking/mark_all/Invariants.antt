use Rattle.std.proofs.Common.{◌≡◌, take}
use Rattle.walrus_unused.specs.Steps.Marking.{with_marks}
use Rattle.walrus_unused.proofs.unused_types.marking.Marking.mark_all.Given as goal

abbrev pub invariant-loop-id : goal.invariant-loop-id
invariant-loop-id l = l.self ≡ with_marks (take l.id-index l.ids) l.fn.self
