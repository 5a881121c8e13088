use Rattle.std.proofs.Common.{Err, ap}
use Rattle.wasm_normalise.proofs.faults.first_fault.Goals as goal

pub returns-in-Err-Malformed : goal.returns-in-Err-Malformed
returns-in-Err-Malformed c = λ options h. (
  h,
  c.in-Err-Malformed.ensures.malformed c.in-Err-Malformed.offset
      (ap (λ x. Err x) c.in-Err-Malformed.field-0-is),
)
