use Rattle.std.proofs.Common.{refl}
use Rattle.walrus_types.specs.TableCalls.{Writes}
use Rattle.walrus_types.proofs.laws.calls.write.Goals as goal

pub returns-clause-call : goal.returns-clause-call
returns-clause-call c = (Writes c.args.id c.args.ty c.requires refl, refl)
