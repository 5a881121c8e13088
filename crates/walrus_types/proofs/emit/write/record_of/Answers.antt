use Rattle.std.proofs.Common.{rules}
use Rattle.walrus_types.proofs.emit.write.record_of.Goals as goal

pub returns-in_err-entry-in-Some-clause-missing : goal.returns-in_err-entry-in-Some-clause-missing
returns-in_err-entry-in-Some-clause-missing c = search rules
