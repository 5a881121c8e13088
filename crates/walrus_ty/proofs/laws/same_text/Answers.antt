use Rattle.walrus_ty.proofs.Texts.ReadBack.{same_from_text}
use Rattle.walrus_ty.proofs.laws.same_text.Goals as goal

pub returns : goal.returns
returns c = same_from_text c.args.v.now c.args.w.now c.has_places.ensures c.has_places-2.ensures
