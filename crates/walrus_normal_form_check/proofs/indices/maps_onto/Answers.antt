use Rattle.std.proofs.Common.{◌≡◌, ℕ, ◌<◌, length}
use Rattle.walrus_sections.specs.NormalForm.{image}
use Rattle.walrus_normal_form_check.proofs.Decisions.{each_more}
use Rattle.walrus_normal_form_check.proofs.indices.maps_onto.Goals as goal

pub loop-target-preserved : goal.loop-target-preserved
loop-target-preserved c = each_more (λ p. (i : ℕ) × (i < length c.args.section.now)
    × (image c.args.map.now i ≡ p)) c.loop-target.target c.has_source.result c.loop-target.invariant
    c.has_source.ensures.0 c.if-not-has_source.false
