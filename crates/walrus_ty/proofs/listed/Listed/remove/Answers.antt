use Rattle.std.proofs.Common.{◌≡◌, get_or, refl, subst}
use Rattle.std.proofs.lemmas.Option.{slice_get_read}
use Rattle.walrus_ty.proofs.listed.Listed.remove.Goals as goal

pub returns-clause-item : goal.returns-clause-item
returns-clause-item g c = slice_get_read _ _ c.args.index _ refl c.requires
    (subst (λ items. c.remove.result ≡ get_or items c.args.index c.remove.result) c.self.view_is
    c.remove.ensures.value)
