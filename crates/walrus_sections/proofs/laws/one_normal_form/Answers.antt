use Rattle.walrus_sections.proofs.laws.one_normal_form.Goals as goal
use Rattle.walrus_sections.proofs.NormalForms.One as lemmas

pub returns-clause-section : goal.returns-clause-section
returns-clause-section c = λ s n p m w h a b. (lemmas.one_normal_form s n p m w h.below_ends a b).0

pub returns-clause-map : goal.returns-clause-map
returns-clause-map c = λ s n p m w h a b. (lemmas.one_normal_form s n p m w h.below_ends a b).1
