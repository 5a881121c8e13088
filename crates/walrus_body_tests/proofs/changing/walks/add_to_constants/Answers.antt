use Rattle.std.proofs.lemmas.Result.{on_ok_weaker}
use Rattle.walrus_body_tests.specs.Adding.{adding_at}
use Rattle.walrus_body_tests.proofs.Adding.{adds_to_fields}
use Rattle.walrus_body_tests.proofs.changing.walks.add_to_constants.Goals as goal

pub returns-clause-added : goal.returns-clause-added
returns-clause-added c =
    on_ok_weaker c.dfs_pre_order_mut.result (λ walk.
    c.field_maps_map_the_body.ensures.body c.args.visitor.now adding_at
    (adds_to_fields c.args.visitor.now) c.args.func.now.body
    (c.dfs_pre_order_mut.new.visitor, c.dfs_pre_order_mut.new.func.body) c.args.start walk)
    c.dfs_pre_order_mut.ensures.ok
