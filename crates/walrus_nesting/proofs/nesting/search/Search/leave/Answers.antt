use Rattle.walrus_nesting.specs.contracts.nesting.search.Search.{the_view}
use Rattle.walrus_nesting.proofs.Nested.SearchSteps.{left_is}
use Rattle.walrus_nesting.proofs.nesting.search.Search.leave.Goals as goal

pub returns : goal.returns
returns c = rw (← c.self.view_is) (left_is (the_view c.self.inside) c.args.id c.self.inside.path.len
    c.index.result c.pop.new.self.items c.push.new.self.items c.self.inside.path.ok.0 c.index.ensures
    c.pop.ensures.rest c.in_ok-push.ensures.items)
