use Rattle.std.proofs.Common.{length}
use Rattle.walrus_normal_form_check.specs.Steps.Pairs.{KeepsAnchors}
use Rattle.walrus_sections.specs.NormalForm.{image}
use Rattle.walrus_sections.specs.Section.{index_space_of_places}
use Rattle.walrus_normal_form_check.proofs.Decisions.{from_false, not_each_pair, each_pair_more}
use Rattle.walrus_normal_form_check.proofs.pairs.keeps_anchors.Goals as goal

pub returns-then-not-keeps_anchors_before : goal.returns-then-not-keeps_anchors_before
returns-then-not-keeps_anchors_before c = (
  from_false,
  not_each_pair (KeepsAnchors (index_space_of_places c.args.section.now) (image c.args.map.now))
      (length c.args.section.now) c.loop-later.later c.keeps_anchors_before.result c.loop-later-test.true
      c.keeps_anchors_before.ensures.1 c.if-not-keeps_anchors_before.true,
)

pub loop-later-preserved : goal.loop-later-preserved
loop-later-preserved c = each_pair_more (KeepsAnchors (index_space_of_places c.args.section.now)
    (image c.args.map.now)) c.loop-later.later c.keeps_anchors_before.result c.loop-later.invariant
    c.keeps_anchors_before.ensures.0 c.if-not-keeps_anchors_before.false
