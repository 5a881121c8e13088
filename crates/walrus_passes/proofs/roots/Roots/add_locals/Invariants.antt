use Rattle.std.proofs.Common.{take}
use Rattle.std.specs.List.{flat_map}
use Rattle.walrus_passes.specs.UsedTypes.{local_types}
use Rattle.walrus_passes.specs.Steps.UsedTypes.{Lists}
use Rattle.walrus_passes.proofs.roots.Roots.add_locals.Given as goal

abbrev pub invariant-loop-id : goal.invariant-loop-id
invariant-loop-id l =
    Lists l.fn.self (flat_map (local_types l.fn.self.locals.now) (take l.id-index l.ids)) l.self
