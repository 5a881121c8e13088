use Rattle.walrus_passes.proofs.Conversions.{plain-call, plain-call-no_results}
use Rattle.walrus_passes.proofs.laws.plain_conversions_make_the_plain_adapter.Goals as goal

pub returns-clause-results : goal.returns-clause-results
returns-clause-results c = plain-call

pub returns-clause-no_results : goal.returns-clause-no_results
returns-clause-no_results c = plain-call-no_results
