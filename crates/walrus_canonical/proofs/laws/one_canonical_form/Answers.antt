use Rattle.walrus_canonical.proofs.laws.one_canonical_form.Goals as goal
use Rattle.walrus_canonical.proofs.Forms.Canonical.{one_section, one_indices}

pub returns-clause-section : goal.returns-clause-section
returns-clause-section c = one_section

pub returns-clause-indices : goal.returns-clause-indices
returns-clause-indices c = one_indices
