use Rattle.error_context.proofs.Lookalikes.{begins}
use Rattle.error_context.proofs.lookalike.begins_with.Goals as goal

pub returns-clause-yes : goal.returns-clause-yes
returns-clause-yes c = λ holds. begins c.args.bytes.now c.args.front.now c.starts_with.result
    c.starts_with.ensures.value holds
