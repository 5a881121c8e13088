use Rattle.walrus_normal_form_check.specs.Steps.Pairs.{OrdersFree}
use Rattle.walrus_sections.specs.NormalForm.{image}
use Rattle.walrus_sections.specs.Section.{index_space_of_places}
use Rattle.walrus_normal_form_check.proofs.Decisions.{from_false, not_each, each_more}
use Rattle.walrus_normal_form_check.proofs.pairs.orders_free_before.Goals as goal

pub returns-then-not-orders_pair : goal.returns-then-not-orders_pair
returns-then-not-orders_pair c = (
  from_false,
  not_each (λ i. OrdersFree (index_space_of_places c.args.section.now) (image c.args.map.now) i
      c.args.later) c.args.later c.loop-earlier.earlier c.orders_pair.result c.loop-earlier-test.true
      c.orders_pair.ensures.1 c.if-not-orders_pair.true,
)

pub loop-earlier-preserved : goal.loop-earlier-preserved
loop-earlier-preserved c = each_more (λ i. OrdersFree (index_space_of_places c.args.section.now)
    (image c.args.map.now) i c.args.later) c.loop-earlier.earlier c.orders_pair.result
    c.loop-earlier.invariant c.orders_pair.ensures.0 c.if-not-orders_pair.false
