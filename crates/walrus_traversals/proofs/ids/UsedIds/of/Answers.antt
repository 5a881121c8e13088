use Rattle.walrus_traversals.specs.Events.{events}
use Rattle.walrus_traversals.proofs.Collecting.{collects_all}
use Rattle.walrus_traversals.proofs.ids.UsedIds.of.Goals as goal

pub returns-in-Ok : goal.returns-in-Ok
returns-in-Ok c =
    collects_all (events c.args.func.now.body c.args.start) c.new-ids.result c.dfs_in_order.new.visitor
    c.new-ids.ensures c.in-Ok.ensures.ok
