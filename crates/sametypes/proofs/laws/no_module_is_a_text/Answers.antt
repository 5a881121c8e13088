use Rattle.sametypes.proofs.Uniqueness.{no_module_is_a_text}
use Rattle.sametypes.proofs.laws.no_module_is_a_text.Goals as goal

pub returns : goal.returns
returns c = no_module_is_a_text
