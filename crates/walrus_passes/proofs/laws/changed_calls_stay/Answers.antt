use Rattle.walrus_passes.specs.ChangedCalls.{snipped, redirected}
use Rattle.walrus_passes.proofs.ChangedCalls.{settled, snipped-settles, redirected-settles}
use Rattle.walrus_passes.proofs.laws.changed_calls_stay.Goals as goal

pub returns-clause-snipped : goal.returns-clause-snipped
returns-clause-snipped c =
    λ funcs old between new. settled (snipped funcs) (snipped-settles funcs) old between new

pub returns-clause-redirected : goal.returns-clause-redirected
returns-clause-redirected c = λ from to old between new.
    settled (redirected from to) (redirected-settles from to) old between new
