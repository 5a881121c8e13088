use Rattle.walrus_sections.proofs.laws.equal_outputs_by_moves.Goals as goal
use Rattle.walrus_sections.proofs.Moves.Chains.{same_output}

pub returns : goal.returns
returns c = same_output
