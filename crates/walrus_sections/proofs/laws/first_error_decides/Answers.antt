use Rattle.walrus_sections.proofs.laws.first_error_decides.Goals as goal
use Rattle.walrus_sections.proofs.FirstError.Laws as lemmas

pub returns-clause-either : goal.returns-clause-either
returns-clause-either c = lemmas.either

pub returns-clause-not_both : goal.returns-clause-not_both
returns-clause-not_both c = lemmas.not_both
