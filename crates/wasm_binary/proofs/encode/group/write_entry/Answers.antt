use Rattle.std.proofs.lemmas.Result.{on_ok_weaker}
use Rattle.wasm_binary.proofs.Texts.{none_from, not_none, not_final, plain_is, declared_is}
use Rattle.wasm_binary.proofs.encode.group.write_entry.Goals.{else-entry-via-then-entry+else-is_none, else-entry-via-else-entry}
use Rattle.wasm_binary.proofs.encode.group.write_entry.Goals as goal

pub returns-then-is_none-clause-text : goal.returns-then-is_none-clause-text
returns-then-is_none-clause-text c =
    on_ok_weaker c.write_comp.result (plain_is c.args.entry.now c.if-entry.true
    (none_from c.args.entry.now.supertype c.if-is_none.ensures)) c.write_comp.ensures.text

pub returns-clause-text : goal.returns-clause-text
returns-clause-text c =
    on_ok_weaker c.write_comp-2.result
    (declared_is c.args.entry.now
    (λ f n. elim c.else-entry.branch [
      | else-entry-via-then-entry+else-is_none w ↦
          not_none c.args.entry.now.supertype w.is_none.result w.is_none.ensures w.if-is_none.false n
      | else-entry-via-else-entry w ↦ not_final c.args.entry.now.is_final w.if-entry.false f
    ])
    c.in_ok-write_supertype.ensures.text)
    c.write_comp-2.ensures.text
