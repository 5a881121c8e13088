use Rattle.wasmnorm.proofs.failure.refusal.Goals as goal

pub returns : goal.returns
returns c =
    record { explains = λ why. (c.first_error-error.ensures why, c.context_beside.ensures) }
