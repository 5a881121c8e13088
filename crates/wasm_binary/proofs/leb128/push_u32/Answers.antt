use Rattle.std.proofs.Common.{arith}
use Rattle.std.proofs.lemmas.Result.{on_ok_weaker}
use Rattle.wasm_binary.proofs.Shortest.{u32_written}
use Rattle.wasm_binary.proofs.leb128.push_u32.Goals as goal

pub returns-clause-text : goal.returns-clause-text
returns-clause-text c = on_ok_weaker c.push_integer.result (λ h.
    u32_written c.args.number (omega (arith, c.ranges.number.fits))) c.push_integer.ensures
