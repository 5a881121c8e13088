use Rattle.std.proofs.Common.{rules}
use Rattle.walrus_unused.proofs.unused_types.marking.Marking.visit.Goals as goal

pub returns : goal.returns
returns c = search rules
