use Rattle.std.proofs.Common.{rules}
use Rattle.walrus_types.proofs.moves.same_up_to_moves.Goals as goal

pub returns-clause-joined : goal.returns-clause-joined
returns-clause-joined c = search rules

pub returns-in_err-first-clause-refused : goal.returns-in_err-first-clause-refused
returns-in_err-first-clause-refused c = search rules
