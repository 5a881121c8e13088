use Rattle.walrus_nesting.proofs.Nested.Exact.{nested_below}
use Rattle.walrus_nesting.proofs.laws.nested_throughout.Goals as goal

pub returns-clause-nested : goal.returns-clause-nested
returns-clause-nested c = nested_below
