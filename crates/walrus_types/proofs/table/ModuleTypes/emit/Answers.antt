use Rattle.std.proofs.Common.{rules}
use Rattle.walrus_types.proofs.table.ModuleTypes.emit.Goals as goal

pub returns-then-has_too_many-clause-too_many : goal.returns-then-has_too_many-clause-too_many
returns-then-has_too_many-clause-too_many c = search rules
