use Rattle.std.proofs.Common.{length}
use Rattle.walrus_normal_form_check.specs.Steps.Pairs.{Differ}
use Rattle.walrus_sections.specs.Section.{index_space_of_places}
use Rattle.walrus_normal_form_check.proofs.Decisions.{from_false, not_each_pair, each_pair_more}
use Rattle.walrus_normal_form_check.proofs.pairs.singles_differ.Goals as goal

pub returns-then-not-differs_from_earlier : goal.returns-then-not-differs_from_earlier
returns-then-not-differs_from_earlier c = (
  from_false,
  not_each_pair (Differ (index_space_of_places c.args.output.now)) (length c.args.output.now)
      c.loop-later.later c.differs_from_earlier.result c.loop-later-test.true c.differs_from_earlier.ensures.1
      c.if-not-differs_from_earlier.true,
)

pub loop-later-preserved : goal.loop-later-preserved
loop-later-preserved c = each_pair_more (Differ (index_space_of_places c.args.output.now)) c.loop-later.later
    c.differs_from_earlier.result c.loop-later.invariant c.differs_from_earlier.ensures.0
    c.if-not-differs_from_earlier.false
