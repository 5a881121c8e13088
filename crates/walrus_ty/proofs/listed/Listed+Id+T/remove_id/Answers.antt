use Rattle.std.proofs.Common.{◌≡◌, filter, not, nat_eq, ap, ◌∙◌, rules, arith}
use Rattle.std.proofs.lemmas.Fn.{filter_same}
use Rattle.walrus_ty.proofs.listed.Listed+Id+T.remove_id.Goals as goal

pub returns : goal.returns
returns g c = filter_same _ (λ i. not (nat_eq i c.args.id)) _ (λ x b f' h.
    let says : b ≡ not (nat_eq x c.args.id) = grind (arith, h, c.index-at.ensures) in (says, search rules))
    c.self.inside.items.items _ c.retain.ensures.filtered
    ∙ ap (filter (λ i. not (nat_eq i c.args.id))) c.self.view_is
