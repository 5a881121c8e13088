use Rattle.std.proofs.lemmas.Result.{on_ok_weaker}
use Rattle.wasm_binary.proofs.Texts.{no_supertype_is, supertype_is}
use Rattle.wasm_binary.proofs.encode.group.write_supertype.Goals as goal

pub returns-in_ok-push-in-None-clause-text : goal.returns-in_ok-push-in-None-clause-text
returns-in_ok-push-in-None-clause-text c = rw c.in-None.is no_supertype_is

pub returns-in_ok-push-in-Some-clause-text : goal.returns-in_ok-push-in-Some-clause-text
returns-in_ok-push-in-Some-clause-text c =
    on_ok_weaker c.push_u32.result (λ h. rw c.in-Some.is (supertype_is c.in-Some.index h))
    c.push_u32.ensures.text
