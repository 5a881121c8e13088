use Rattle.walrus_types.proofs.Emission.WellNamed.{can_be_read}
use Rattle.walrus_types.proofs.laws.emitted_section_can_be_read.Goals as goal

pub returns : goal.returns
returns c = λ t out x em single few. can_be_read t single out x em few
