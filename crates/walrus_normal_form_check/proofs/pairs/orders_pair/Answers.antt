use Rattle.std.proofs.Common.{◌<◌, arith}
use Rattle.walrus_sections.specs.NormalForm.{image}
use Rattle.walrus_normal_form_check.proofs.Decisions.{as_held, as_not_held}
use Rattle.walrus_normal_form_check.proofs.pairs.orders_pair.Goals as goal

pub returns-then-image_of : goal.returns-then-image_of
returns-then-image_of c =
    let m : image c.args.map.now c.args.earlier < image c.args.map.now c.args.later =
    omega (arith, c.image_of.ensures, c.image_of-2.ensures, c.if-image_of.true) in
    as_held c.is_less-is_less.result (c.is_kept.ensures.0 c.if-not-is_kept.false)
    (c.is_kept-else-not-is_kept.ensures.0 c.if-not-is_kept-2.false)
    (c.are_free.ensures.0 c.if-not-are_free.false) m c.is_less-is_less.ensures

pub returns-else-image_of : goal.returns-else-image_of
returns-else-image_of c =
    let fails : ¬ (image c.args.map.now c.args.earlier < image c.args.map.now c.args.later) = λ m.
    omega (arith, c.image_of.ensures, c.image_of-2.ensures, c.if-image_of.false, m) in
    as_not_held c.is_less-is_less.result (c.is_kept.ensures.0 c.if-not-is_kept.false)
    (c.is_kept-else-not-is_kept.ensures.0 c.if-not-is_kept-2.false)
    (c.are_free.ensures.0 c.if-not-are_free.false) fails c.is_less-is_less.ensures
