use Rattle.walrus_sections.proofs.laws.read_then_emitted.Goals as goal
use Rattle.walrus_sections.proofs.Emission.Emits as lemmas

pub returns : goal.returns
returns c = lemmas.read_then_emitted
