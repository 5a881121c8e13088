use Rattle.walrus_canonical.proofs.laws.found_by_groups.Goals as goal
use Rattle.walrus_canonical.proofs.Forms.Existence as lemmas

pub returns-clause-nothing : goal.returns-clause-nothing
returns-clause-nothing c = lemmas.begins_empty

pub returns-clause-grows : goal.returns-clause-grows
returns-clause-grows c = lemmas.grows

pub returns-clause-none_left : goal.returns-clause-none_left
returns-clause-none_left c = lemmas.none_left

pub returns-clause-ends : goal.returns-clause-ends
returns-clause-ends c = lemmas.ends
