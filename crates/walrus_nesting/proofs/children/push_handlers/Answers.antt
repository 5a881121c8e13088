use Rattle.std.proofs.Common.{◌-◌, arith}
use Rattle.walrus_functions.specs.Nesting.{handlers}
use Rattle.walrus_nesting.proofs.Pushed.{refused_at}
use Rattle.walrus_nesting.proofs.children.push_handlers.Goals as goal

pub returns-in_err-push_handler-clause-refused : goal.returns-in_err-push_handler-clause-refused
returns-in_err-push_handler-clause-refused g c =
    refused_at g.T.From.from_gives c.from_residual.result handlers c.args.clauses.now
    c.index-clauses-left.result (c.loop-left.left - 1) c.loop-left.left _ _ _ (omega arith) (omega arith)
    c.index-clauses-left.is c.loop-left.invariant.1 c.in_err-push_handler.ensures.refused
