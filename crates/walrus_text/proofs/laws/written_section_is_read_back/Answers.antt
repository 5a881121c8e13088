use Rattle.walrus_text.proofs.Texts.Written.{section_back}
use Rattle.walrus_text.proofs.laws.written_section_is_read_back.Goals as goal

pub returns : goal.returns
returns c = section_back
