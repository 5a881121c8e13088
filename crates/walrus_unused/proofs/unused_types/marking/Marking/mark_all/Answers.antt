use Rattle.walrus_unused.proofs.UnusedTypes.Steps.{next_below}
use Rattle.walrus_unused.proofs.unused_types.marking.Marking.mark_all.Goals as goal

pub mark-requires : goal.mark-requires
mark-requires c = next_below c.args.self.now c.loop-id.self c.args.ids.now c.loop-id.id-index c.id-item.result
    c.loop-id.invariant c.requires c.loop-id-test.true c.id-item.is
