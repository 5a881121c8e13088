use Rattle.walrus_unused.proofs.UnusedTypes.Steps.{next_covered}
use Rattle.walrus_unused.proofs.unused_types.marking.Marking.reach_all.Goals as goal

pub reach-requires : goal.reach-requires
reach-requires c = next_covered c.args.types.now c.args.self.now c.loop-id.self c.args.ids.now
    c.loop-id.id-index c.loop-id.invariant c.requires
