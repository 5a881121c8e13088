use Rattle.wasmnorm.specs.Steps.Failures.{Explains}
use Rattle.wasmnorm.proofs.Failures.{error_kept, stream_explains}
use Rattle.wasmnorm.proofs.warning.accepted_warning.Goals as goal

pub returns-in_err-warning-clause-refused : goal.returns-in_err-warning-clause-refused
returns-in_err-warning-clause-refused c =
    error_kept (Explains c.args.options.now c.args.bytes.now) c.from_residual.result
    c.in_err-warning.field-0.0 c.from_residual.ensures.1
    (stream_explains c.args.options.now c.args.bytes.now c.in_err-warning.field-0.0
    c.in_err-warning.ensures.refused)
