use Rattle.walrus_text.proofs.Texts.Uniqueness.{one_section}
use Rattle.walrus_text.proofs.laws.one_section.Goals as goal

pub returns : goal.returns
returns c = one_section
