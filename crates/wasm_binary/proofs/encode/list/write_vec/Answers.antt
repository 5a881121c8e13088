use Rattle.std.proofs.lemmas.Result.{on_ok_weaker}
use Rattle.wasm_binary.proofs.Texts.{vec_is}
use Rattle.wasm_binary.proofs.NoTexts.{too_long}
use Rattle.wasm_binary.proofs.encode.list.write_vec.Goals as goal

pub returns-in_default-clause-too_many : goal.returns-in_default-clause-too_many
returns-in_default-clause-too_many g c = λ e. too_long g.T.Encode.texts c.args.items.now c.in_default.ensures

pub returns-clause-text : goal.returns-clause-text
returns-clause-text g c =
    on_ok_weaker c.write_items.result (vec_is g.T.Encode.texts g.T.Encode.text c.args.items.now c.in-Ok.count
    c.in-Ok.ensures.1 c.in_ok-push_u32.ensures.text) c.write_items.ensures.text
