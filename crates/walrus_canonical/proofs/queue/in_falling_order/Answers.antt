use Rattle.std.proofs.Common.{rules}
use Rattle.std.proofs.lemmas.List.Sorted.{answers_always}
use Rattle.walrus_canonical.proofs.Output.OrderedQueues.{falling_from_sort, falls, falls_order}
use Rattle.walrus_canonical.proofs.queue.in_falling_order.Goals as goal

pub returns-clause-falling : goal.returns-clause-falling
returns-clause-falling c =
    falling_from_sort _ (c.sort_unstable_by.ensures.sorted falls falls_order
    (answers_always _ _ _ (λ f a r g k. search rules)))
