use Rattle.std.proofs.Common.{refl}
use Rattle.walrus_arena.specs.Calls.Call.{writes}
use Rattle.walrus_arena.proofs.laws.calls.write_if_live.Goals as goal

pub returns-in-Some-clause-call : goal.returns-in-Some-clause-call
returns-in-Some-clause-call g c = writes c.args.id c.args.value refl refl
