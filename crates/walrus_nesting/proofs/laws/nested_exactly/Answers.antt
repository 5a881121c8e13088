use Rattle.walrus_nesting.proofs.Nested.Exact.{nested_exactly}
use Rattle.walrus_nesting.proofs.laws.nested_exactly.Goals as goal

pub returns : goal.returns
returns c = nested_exactly c.args.func.now.body c.args.start c.args.verdict.now c.requires
