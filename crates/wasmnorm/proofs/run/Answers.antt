use Rattle.wasmnorm.proofs.Failures.{known_refused, known_ill_named}
use Rattle.wasmnorm.proofs.run.Goals as goal

pub returns-in-Err-clause-refused : goal.returns-in-Err-clause-refused
returns-in-Err-clause-refused g c =
    known_refused c.args.options.now (g.R.Read.remaining c.args.reader.now) c.in-Err.failure
    c.report.result c.in-Err.ensures.failed c.report.ensures.status

pub returns-in-Err-clause-ill_named : goal.returns-in-Err-clause-ill_named
returns-in-Err-clause-ill_named g c =
    known_ill_named c.args.options.now (g.R.Read.remaining c.args.reader.now) c.in-Err.failure
    c.report.result c.in-Err.ensures.failed c.report.ensures.status
