use Rattle.std.specs.{Fn.FnOnceReturnsAt, List.range_with_len}
use Rattle.walrus_types.specs.Table.{next_id}
use Rattle.walrus_types.proofs.Tables.MadeCalls.{group_added, no_group_added}
use Rattle.walrus_types.proofs.laws.calls.add_rec_group.Goals as goal

pub returns-clause-ok : goal.returns-clause-ok
returns-clause-ok g c = group_added _ _ (λ all. all.items) c.args.count
    (FnOnceReturnsAt g.F.FnOnce c.args.build) (range_with_len (next_id c.args.types.now) c.args.count)
    c.add_rec_group.result c.add_rec_group.ensures.ids c.add_rec_group.ensures.ok

pub returns-clause-err : goal.returns-clause-err
returns-clause-err g c = no_group_added _ _ c.add_rec_group.result c.add_rec_group.ensures.err
