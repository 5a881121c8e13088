use Rattle.std.proofs.Common.{arith}
use Rattle.std.proofs.lemmas.Result.{on_ok_weaker}
use Rattle.wasm_module.proofs.Padding.{appends_text_of}
use Rattle.wasm_module.proofs.leb128.push_s33.Goals as goal

pub returns : goal.returns
returns c =
    on_ok_weaker c.push_integer.result
    (λ a. appends_text_of 0x40 c.args.least c.args.index c.args.out.now.items c.push_integer.new.out.items
    (omega arith) (omega arith) c.requires (omega (arith, c.ranges.index.fits)) a)
    c.push_integer.ensures
