use Rattle.std.proofs.lemmas.Result.{on_ok_weaker}
use Rattle.wasm_binary.proofs.Texts.{nullable_is}
use Rattle.wasm_binary.proofs.encode.value.write_nullable.Goals as goal

pub returns-clause-text : goal.returns-clause-text
returns-clause-text c = on_ok_weaker c.write_heap.result (nullable_is c.args.heap_type)
    c.write_heap.ensures.text
