use Rattle.walrus_sections.proofs.laws.second_round.Goals as goal
use Rattle.walrus_sections.proofs.NormalForms.Twice.{normal_well_named, normal_twice}

pub returns-clause-well_named : goal.returns-clause-well_named
returns-clause-well_named c = normal_well_named

pub returns-clause-itself : goal.returns-clause-itself
returns-clause-itself c = normal_twice
