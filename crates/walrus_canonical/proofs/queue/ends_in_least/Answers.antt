use Rattle.std.proofs.Common.{rules, ◌≡◌, ◌∙◌}
use Rattle.std.specs.Ordering.{is_lt}
use Rattle.walrus_canonical.specs.Steps.Shown.{definitions_cmp}
use Rattle.walrus_canonical.proofs.Output.OrderedQueues.{above_map, below_map}
use Rattle.walrus_canonical.proofs.queue.ends_in_least.Goals as goal

pub returns-in-Some-first_key_value-clause-least :
    goal.returns-in-Some-first_key_value-clause-least
returns-in-Some-first_key_value-clause-least c = λ yes before ds n is. (
    let first = c.in-Some-first_key_value.first.0.now in
    let compared : is_lt (definitions_cmp c.in-Some.last.now.0 first) ≡ c.is_lt.result = search rules in
    below_map c.args.kept.now.entries c.args.falling.now before c.in-Some.last.now first
    c.in-Some.ensures.value ds n is c.in-Some-first_key_value.ensures.all_from (compared ∙ yes))

pub returns-in-Some-first_key_value-clause-other :
    goal.returns-in-Some-first_key_value-clause-other
returns-in-Some-first_key_value-clause-other c = λ no rest before ds es m n front is. (
    let first = c.in-Some-first_key_value.first in
    let compared : is_lt (definitions_cmp c.in-Some.last.now.0 first.0.now) ≡ c.is_lt.result =
    search rules in
    above_map c.args.kept.now.entries c.args.falling.now before c.in-Some.last.now first.0.now
    c.in-Some.ensures.value es n is rest first.1.now c.in-Some-first_key_value.ensures.first
    (compared ∙ no) ds m front)
