use Rattle.wasm_normalise.proofs.StrictRefusals.{step_refused}
use Rattle.wasm_normalise.proofs.strict.strict_canonical_module.Goals as goal

pub returns-in_err-new-clause-refused : goal.returns-in_err-new-clause-refused
returns-in_err-new-clause-refused c =
    step_refused c.args.options c.args.allowed.now c.args.bytes.now c.from_residual.result
    c.in_err-new.field-0.0 c.from_residual.ensures.1 c.in_err-new.ensures.refused
