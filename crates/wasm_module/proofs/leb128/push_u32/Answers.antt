use Rattle.std.proofs.Common.{arith}
use Rattle.std.proofs.lemmas.Result.{on_ok_weaker}
use Rattle.wasm_module.proofs.Padding.{appends_text_of}
use Rattle.wasm_module.proofs.leb128.push_u32.Goals as goal

pub returns : goal.returns
returns c =
    on_ok_weaker c.push_integer.result
    (λ a. appends_text_of 0x80 c.args.least c.args.number c.args.out.now.items c.push_integer.new.out.items
    (omega arith) (omega arith) c.requires (omega (arith, c.ranges.number.fits)) a)
    c.push_integer.ensures
