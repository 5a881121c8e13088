use Rattle.std.proofs.Common.{refl}
use Rattle.walrus_arena.specs.Calls.Call.{writes}
use Rattle.walrus_arena.proofs.laws.calls.write.Goals as goal

pub returns-clause-call : goal.returns-clause-call
returns-clause-call g c = writes c.args.id c.args.value refl refl
