use Rattle.walrus_sections.proofs.laws.output_exists.Goals as goal
use Rattle.walrus_sections.proofs.Moves.Chains.{output}

pub returns : goal.returns
returns c = output
