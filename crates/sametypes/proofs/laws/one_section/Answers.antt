use Rattle.sametypes.proofs.Uniqueness.{one_section}
use Rattle.sametypes.proofs.laws.one_section.Goals as goal

pub returns : goal.returns
returns c = one_section
