use Rattle.std.specs.Prelude.{IfSome}
use Rattle.wasmnorm.specs.Steps.Failures.{Explains}
use Rattle.wasmnorm.specs.declared.failure.Failure.TheVariants as failure
use Rattle.wasmnorm.proofs.Failures.{error_kept, known_of_streams}
use Rattle.wasmnorm.proofs.Warnings.{known_warned, warns_at_most}
use Rattle.wasmnorm.proofs.normalise_input.Goals as goal

pub returns-in-Err-clause-failed : goal.returns-in-Err-clause-failed
returns-in-Err-clause-failed g c =
    known_of_streams c.args.options.now (g.R.Read.remaining c.args.reader.now)
    c.failed_input.result c.failed_input.ensures

pub returns-clause-failed : goal.returns-clause-failed
returns-clause-failed g c =
    known_of_streams c.args.options.now (g.R.Read.remaining c.args.reader.now)
    (failure.Output c.in-Err-write_and_flush.error) tt

pub returns-in_err-warn_of-clause-failed : goal.returns-in_err-warn_of-clause-failed
returns-in_err-warn_of-clause-failed g c =
    error_kept (λ e. IfSome (g.R.Read.remaining c.args.reader.now) (λ bytes. Explains c.args.options.now bytes e))
    c.from_residual-in_err-warn_of.result c.in_err-warn_of.field-0.0
    c.from_residual-in_err-warn_of.ensures.1
    (known_of_streams c.args.options.now (g.R.Read.remaining c.args.reader.now) c.in_err-warn_of.field-0.0
    c.in_err-warn_of.ensures.failed)

pub returns-in-Ok-write_and_flush-clause-warned : goal.returns-in-Ok-write_and_flush-clause-warned
returns-in-Ok-write_and_flush-clause-warned g c =
    known_warned c.args.options.now.allowed.now (g.R.Read.remaining c.args.reader.now) c.in-Ok.bytes.items c.as_slice.result.now
    c.in_ok-module.field-0.warning (g.E.Write.contents c.args.err.now) (g.E.Write.contents c.warn_of.new.err)
    c.in-Ok.ensures c.as_slice.ensures.value c.in_ok-module.ensures.first
    c.in_ok-warn_of.ensures.warned

pub returns-in-Ok-write_and_flush-clause-bounded : goal.returns-in-Ok-write_and_flush-clause-bounded
returns-in-Ok-write_and_flush-clause-bounded g c =
    warns_at_most c.in_ok-module.field-0.warning (g.E.Write.contents c.args.err.now)
    (g.E.Write.contents c.warn_of.new.err) c.in_ok-warn_of.ensures.warned
