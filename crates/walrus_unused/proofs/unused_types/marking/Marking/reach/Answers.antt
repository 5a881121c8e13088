use Rattle.std.proofs.Common.{rules}
use Rattle.walrus_unused.proofs.UnusedTypes.Steps.{group_below}
use Rattle.walrus_unused.proofs.unused_types.marking.Marking.reach.Goals as goal

pub mark_all-requires : goal.mark_all-requires
mark_all-requires c = group_below c.args.types.now c.args.self.now c.args.id c.in-Some.group.now
    c.as_slice.result.now c.requires c.in-Some.ensures c.as_slice.ensures

pub returns-in-Some : goal.returns-in-Some
returns-in-Some c = search rules
