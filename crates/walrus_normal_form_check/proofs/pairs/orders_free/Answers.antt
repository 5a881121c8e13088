use Rattle.std.proofs.Common.{length}
use Rattle.walrus_normal_form_check.specs.Steps.Pairs.{OrdersFree}
use Rattle.walrus_sections.specs.NormalForm.{image}
use Rattle.walrus_sections.specs.Section.{index_space_of_places}
use Rattle.walrus_normal_form_check.proofs.Decisions.{from_false, not_each_pair, each_pair_more}
use Rattle.walrus_normal_form_check.proofs.pairs.orders_free.Goals as goal

pub returns-then-not-orders_free_before : goal.returns-then-not-orders_free_before
returns-then-not-orders_free_before c = (
  from_false,
  not_each_pair (OrdersFree (index_space_of_places c.args.section.now) (image c.args.map.now))
      (length c.args.section.now) c.loop-later.later c.orders_free_before.result c.loop-later-test.true
      c.orders_free_before.ensures.1 c.if-not-orders_free_before.true,
)

pub loop-later-preserved : goal.loop-later-preserved
loop-later-preserved c = each_pair_more (OrdersFree (index_space_of_places c.args.section.now)
    (image c.args.map.now)) c.loop-later.later c.orders_free_before.result c.loop-later.invariant
    c.orders_free_before.ensures.0 c.if-not-orders_free_before.false
