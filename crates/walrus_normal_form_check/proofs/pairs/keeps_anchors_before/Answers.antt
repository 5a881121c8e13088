use Rattle.walrus_normal_form_check.specs.Steps.Pairs.{KeepsAnchors}
use Rattle.walrus_sections.specs.NormalForm.{image}
use Rattle.walrus_sections.specs.Section.{index_space_of_places}
use Rattle.walrus_normal_form_check.proofs.Decisions.{from_false, not_each, each_more}
use Rattle.walrus_normal_form_check.proofs.pairs.keeps_anchors_before.Goals as goal

pub returns-then-not-keeps_anchor : goal.returns-then-not-keeps_anchor
returns-then-not-keeps_anchor c = (
  from_false,
  not_each (λ i. KeepsAnchors (index_space_of_places c.args.section.now) (image c.args.map.now) i
      c.args.later) c.args.later c.loop-earlier.earlier c.keeps_anchor.result c.loop-earlier-test.true
      c.keeps_anchor.ensures.1 c.if-not-keeps_anchor.true,
)

pub loop-earlier-preserved : goal.loop-earlier-preserved
loop-earlier-preserved c = each_more (λ i. KeepsAnchors (index_space_of_places c.args.section.now)
    (image c.args.map.now) i c.args.later) c.loop-earlier.earlier c.keeps_anchor.result
    c.loop-earlier.invariant c.keeps_anchor.ensures.0 c.if-not-keeps_anchor.false
