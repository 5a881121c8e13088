use Rattle.std.proofs.Common.{subst}
use Rattle.std.specs.Prelude.{IfSome}
use Rattle.wasm_normalise.specs.Hazards.{IsHazard}
use Rattle.wasmnorm.proofs.warning.first_warning.Goals as goal

pub returns-in-Ok-Some-clause-first : goal.returns-in-Ok-Some-clause-first
returns-in-Ok-Some-clause-first c =
    c.warning_of.ensures c.args.allowed.now
    (subst (λ o. IfSome o (IsHazard c.args.allowed.now c.args.bytes.now)) c.in-Ok-Some.field-0-is
    c.in-Ok-Some.ensures.found)
