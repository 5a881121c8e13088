use Rattle.walrus_sections.proofs.laws.worked_sections.Goals as goal
use Rattle.walrus_sections.proofs.NormalForms.WorkedSections as worked

pub returns-clause-turned : goal.returns-clause-turned
returns-clause-turned c = worked.turned

pub returns-clause-merged : goal.returns-clause-merged
returns-clause-merged c = worked.merged

pub returns-clause-both_kept : goal.returns-clause-both_kept
returns-clause-both_kept c = worked.both_kept

pub returns-clause-swapped : goal.returns-clause-swapped
returns-clause-swapped c = worked.swapped
