use Rattle.std.proofs.Common.{arith}
use Rattle.std.proofs.lemmas.Result.{on_ok_weaker}
use Rattle.wasm_binary.proofs.Shortest.{s33_written}
use Rattle.wasm_binary.proofs.leb128.push_s33.Goals as goal

pub returns-clause-text : goal.returns-clause-text
returns-clause-text c = on_ok_weaker c.push_integer.result (λ h.
    s33_written c.args.index (omega (arith, c.ranges.index.fits))) c.push_integer.ensures
