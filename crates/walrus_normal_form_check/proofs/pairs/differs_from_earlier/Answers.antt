use Rattle.walrus_normal_form_check.specs.Steps.Pairs.{Differ}
use Rattle.walrus_sections.specs.Section.{index_space_of_places}
use Rattle.walrus_normal_form_check.proofs.Decisions.{from_false, not_each, each_more}
use Rattle.walrus_normal_form_check.proofs.pairs.differs_from_earlier.Goals as goal

pub returns-then-not-differ : goal.returns-then-not-differ
returns-then-not-differ c = (
  from_false,
  not_each (λ i.
      Differ (index_space_of_places c.args.output.now) i c.args.later) c.args.later c.loop-earlier.earlier
      c.differ.result c.loop-earlier-test.true c.differ.ensures.1 c.if-not-differ.true,
)

pub loop-earlier-preserved : goal.loop-earlier-preserved
loop-earlier-preserved c = each_more (λ i. Differ (index_space_of_places c.args.output.now) i c.args.later)
    c.loop-earlier.earlier c.differ.result c.loop-earlier.invariant c.differ.ensures.0 c.if-not-differ.false
