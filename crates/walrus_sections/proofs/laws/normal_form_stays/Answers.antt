use Rattle.std.proofs.Common.{sym}
use Rattle.walrus_sections.specs.NormalForm.{identity}
use Rattle.walrus_sections.proofs.laws.normal_form_stays.Goals as goal
use Rattle.walrus_sections.proofs.NormalForms.One as lemmas

pub returns-clause-section : goal.returns-clause-section
returns-clause-section c = λ s n m w itself b.
    sym (lemmas.one_normal_form s s n (identity s) m w.below_ends itself b).0

pub returns-clause-map : goal.returns-clause-map
returns-clause-map c = λ s n m w itself b. sym
    (lemmas.one_normal_form s s n (identity s) m w.below_ends itself b).1
