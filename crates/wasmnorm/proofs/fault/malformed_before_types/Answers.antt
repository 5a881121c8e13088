use Rattle.std.proofs.Common.{Err, ap}
use Rattle.wasmnorm.proofs.fault.malformed_before_types.Goals as goal

pub returns-in-Err-Malformed : goal.returns-in-Err-Malformed
returns-in-Err-Malformed c =
    record {
      before = c.in_ok-before.before.now;
      is_before = c.in_ok-before.ensures;
      malformed = c.in-Err-Malformed.ensures.malformed c.in-Err-Malformed.offset
          (ap (λ x. Err x) c.in-Err-Malformed.field-0-is);
    }
