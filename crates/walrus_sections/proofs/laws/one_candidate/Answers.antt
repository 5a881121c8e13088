use Rattle.walrus_sections.proofs.laws.one_candidate.Goals as goal
use Rattle.walrus_sections.specs.Section.{index_space}
use Rattle.walrus_sections.proofs.Sections.Rows.{laid_out}
use Rattle.walrus_sections.proofs.Emission.Made as lemmas

pub returns : goal.returns
returns c = λ s r i j k w d h a b. lemmas.one_candidate (index_space s) r (laid_out s) w.below_ends d i j k h
    a b
