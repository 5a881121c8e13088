use Rattle.std.proofs.Common.{◌≡◌}
use Rattle.walrus_nesting.specs.Steps.Searching.{IsSound, steps_left}
use Rattle.walrus_nesting.proofs.nesting.search.Search.run.Given as goal

abbrev pub invariant-loop-work : goal.invariant-loop-work
invariant-loop-work l = record { sound : IsSound l.func.body l.self; start : l.self.start ≡ l.fn.self.start }

abbrev pub decreases-loop-work : goal.decreases-loop-work
decreases-loop-work l = steps_left l.func.body l.self
