use Rattle.std.proofs.Common.{ap, sym, ◌∷◌}
use Rattle.walrus_ir.specs.Calls.{at}
use Rattle.walrus_ir.specs.Fields.{fields}
use Rattle.walrus_ir.specs.Hooks.{visit_instr}
use Rattle.walrus_ir.proofs.Reported.{reported_put}
use Rattle.walrus_traversals.proofs.laws.both_walks_visit_the_same.Goals as goal

pub returns : goal.returns
returns c x = ap (λ l. at visit_instr x ∷ l) (sym (reported_put (fields x.0) (λ i. (i, x.1))))
