use Rattle.walrus_ty.proofs.laws.definitions_in_order.Goals as goal
use Rattle.std.proofs.Common.{ap, sym, ◌∙◌}
use Rattle.std.proofs.lemmas.Cmp.{tied_itself}
use Rattle.walrus_ty.specs.Definition.{definition_cmp}
use Rattle.walrus_ty.proofs.Names.Definitions.{definitions_total, definition_exact}

pub returns-clause-reversed : goal.returns-clause-reversed
returns-clause-reversed c = definitions_total.antisymm

pub returns-clause-transitive : goal.returns-clause-transitive
returns-clause-transitive c = definitions_total.trans

pub returns-clause-exact : goal.returns-clause-exact
returns-clause-exact c = λ d e. (
  definition_exact d e,
  λ p. ap (definition_cmp d) (sym p) ∙ tied_itself definitions_total d,
)
