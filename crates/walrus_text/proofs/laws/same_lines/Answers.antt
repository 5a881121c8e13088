use Rattle.walrus_text.proofs.Texts.Uniqueness.{same_section}
use Rattle.walrus_text.proofs.laws.same_lines.Goals as goal

pub returns : goal.returns
returns c = same_section
