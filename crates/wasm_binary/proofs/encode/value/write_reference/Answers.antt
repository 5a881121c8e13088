use Rattle.std.proofs.lemmas.Result.{on_ok_weaker}
use Rattle.wasm_binary.proofs.Texts.{reference_nullable, reference_never_null}
use Rattle.wasm_binary.proofs.encode.value.write_reference.Goals as goal

pub returns-then-reference-clause-text : goal.returns-then-reference-clause-text
returns-then-reference-clause-text c =
    on_ok_weaker c.write_nullable.result (reference_nullable c.args.reference c.if-reference.true)
    c.write_nullable.ensures.text

pub returns-clause-text : goal.returns-clause-text
returns-clause-text c =
    on_ok_weaker c.write_heap.result (reference_never_null c.args.reference c.if-reference.false)
    c.write_heap.ensures.text
