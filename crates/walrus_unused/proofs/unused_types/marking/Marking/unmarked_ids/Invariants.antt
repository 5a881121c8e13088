use Rattle.std.proofs.Common.{◌≡◌, take, not, filter}
use Rattle.walrus_unused.specs.Steps.Marking.{is_marked}
use Rattle.walrus_unused.proofs.unused_types.marking.Marking.unmarked_ids.Given as goal

abbrev pub invariant-loop-id : goal.invariant-loop-id
invariant-loop-id l = l.unmarked.items ≡ filter (λ id. not (is_marked l.self id)) (take l.id-index l.ids)
