use Rattle.walrus_unused.specs.NeededTypes.{root}
use Rattle.walrus_passes.proofs.laws.referenced_types_are_kept.Goals as goal

pub returns : goal.returns
returns c = λ old new roots keeps init all id u. keeps.types id (root id (all id u))
