use Rattle.std.proofs.Common.{rules, subst, option_to_list, ◌∙◌, sym}
use Rattle.walrus_canonical.specs.Steps.Queues.{IsFalling}
use Rattle.walrus_canonical.proofs.Output.OrderedQueues.{falling_first, first_taken, last_taken}
use Rattle.walrus_canonical.proofs.queue.take_least.Goals as goal

pub returns-then-ends_in_least-clause-falling : goal.returns-then-ends_in_least-clause-falling
returns-then-ends_in_least-clause-falling c = λ falling.
    falling_first c.pop.new.self.items (option_to_list c.pop.result)
    (subst IsFalling c.pop.ensures.items falling)

pub returns-then-ends_in_least-clause-least : goal.returns-then-ends_in_least-clause-least
returns-then-ends_in_least-clause-least c = λ falling.
    last_taken c.args.kept.now.entries c.pop.new.self.items c.args.falling.now.items c.pop.result falling
    c.pop.ensures.items (search rules) (search rules)
    (λ xs ds n is. c.ends_in_least.ensures.least c.if-ends_in_least.true xs ds n
    (c.as_slice.ensures.value ∙ is))

pub returns-else-ends_in_least-clause-least : goal.returns-else-ends_in_least-clause-least
returns-else-ends_in_least-clause-least c = λ falling.
    first_taken c.args.kept.now.entries c.pop_first.new.self.entries c.args.falling.now.items
    c.pop_first.result falling (search rules) c.pop_first.ensures.removal c.pop_first.ensures.unchanged
    c.pop_first.ensures.all_above
    (λ none. sym c.as_slice.ensures.value ∙ c.ends_in_least.ensures.none c.if-ends_in_least.false none)
    (λ more before ds es m n front is. c.ends_in_least.ensures.other c.if-ends_in_least.false more before
    ds es m n front (c.as_slice.ensures.value ∙ is))
