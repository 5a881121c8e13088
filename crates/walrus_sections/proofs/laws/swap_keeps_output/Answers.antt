use Rattle.walrus_sections.proofs.laws.swap_keeps_output.Goals as goal
use Rattle.walrus_sections.proofs.Moves.Turned.{normal_renumbered, renumbered_well_named}

pub returns-clause-well_named : goal.returns-clause-well_named
returns-clause-well_named c = renumbered_well_named

pub returns-clause-output : goal.returns-clause-output
returns-clause-output c = normal_renumbered
