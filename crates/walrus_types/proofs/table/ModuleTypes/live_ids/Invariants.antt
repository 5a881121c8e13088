use Rattle.std.proofs.Common.{◌≡◌, ◌++◌, map}
use Rattle.walrus_arena.specs.Arena.{ids}
use Rattle.walrus_types.proofs.table.ModuleTypes.live_ids.Given as goal

abbrev pub invariant-loop-id : goal.invariant-loop-id
invariant-loop-id l = l.all.items ++ map (λ item. item.0) l.id-iterator ≡ ids l.self.types.slots
