use Rattle.walrus_ty.proofs.Texts.ReadBack.{same_from_text}
use Rattle.walrus_ty.proofs.laws.text_tells_value_types.Goals as goal

pub returns : goal.returns
returns c = same_from_text
