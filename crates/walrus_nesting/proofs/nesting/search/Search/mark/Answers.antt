use Rattle.std.proofs.Common.{ap}
use Rattle.walrus_nesting.specs.Steps.Searching.{State}
use Rattle.walrus_nesting.proofs.Nested.SearchSteps.{mark_read}
use Rattle.walrus_nesting.proofs.nesting.search.Search.mark.Goals as goal

pub returns : goal.returns
returns c = mark_read c.self.inside.marks.items c.args.self.now.marks c.index.result c.args.id
    c.index-2.result.now (ap (λ (s : State). s.marks) c.self.view_is) c.index.ensures c.requires
    c.index-2.ensures
