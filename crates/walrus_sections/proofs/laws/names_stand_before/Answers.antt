use Rattle.walrus_sections.proofs.laws.names_stand_before.Goals as goal
use Rattle.walrus_sections.proofs.Emission.Emits as lemmas

pub returns : goal.returns
returns c = λ s r g u i k w d m nk. lemmas.names_stand s r w.below_ends d g u i k m nk
