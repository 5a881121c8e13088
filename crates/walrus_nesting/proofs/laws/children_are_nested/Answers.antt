use Rattle.walrus_functions.specs.Nesting.{at_start, below}
use Rattle.walrus_nesting.proofs.Nested.Exact.{nested_below}
use Rattle.walrus_nesting.proofs.laws.children_are_nested.Goals as goal

pub returns : goal.returns
returns c =
    nested_below c.args.func.now.body c.args.start c.args.child c.requires.nested
    (below c.args.start c.args.child at_start c.requires.child)
