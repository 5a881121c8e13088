use Rattle.walrus_types.proofs.Tables.MadeCalls.{group_deleted}
use Rattle.walrus_types.proofs.laws.calls.delete_entire_group.Goals as goal

pub returns-clause-ok : goal.returns-clause-ok
returns-clause-ok c = group_deleted _ _ c.args.id c.requires c.delete_entire_group.result
    c.delete_entire_group.ensures.ok
