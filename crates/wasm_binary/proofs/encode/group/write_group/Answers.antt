use Rattle.std.proofs.lemmas.Result.{on_ok_weaker}
use Rattle.wasm_binary.specs.Grammar.{single}
use Rattle.wasm_binary.specs.Steps.Writing.{entry_text}
use Rattle.wasm_binary.proofs.Texts.{rec_is}
use Rattle.wasm_binary.proofs.encode.group.write_group.Goals as goal

pub returns-in-Single-clause-text : goal.returns-in-Single-clause-text
returns-in-Single-clause-text c =
    on_ok_weaker c.write_entry.result (λ h. rw c.in-Single.is
    (single (entry_text c.in-Single.entry) c.in-Single.entry h)) c.write_entry.ensures.text

pub returns-in_ok-push-in-Rec-clause-text : goal.returns-in_ok-push-in-Rec-clause-text
returns-in_ok-push-in-Rec-clause-text c =
    on_ok_weaker c.write_vec.result (λ h. rw c.in-Rec.is
    (rec_is c.in-Rec.entries c.as_slice.result.now c.as_slice.ensures h)) c.write_vec.ensures.text
