use Rattle.wasm_binary.specs.Grammar.{i8, i16, value}
use Rattle.wasm_binary.specs.Steps.Writing.{val_text}
use Rattle.wasm_binary.proofs.encode.composite.write_storage.Goals as goal

pub returns-in_ok-push-in-I8-clause-text : goal.returns-in_ok-push-in-I8-clause-text
returns-in_ok-push-in-I8-clause-text c = rw c.in-I8.is i8

pub returns-in_ok-push-in-I16-clause-text : goal.returns-in_ok-push-in-I16-clause-text
returns-in_ok-push-in-I16-clause-text c = rw c.in-I16.is i16

pub returns-in_ok-write_val-in-Val-clause-text : goal.returns-in_ok-write_val-in-Val-clause-text
returns-in_ok-write_val-in-Val-clause-text c =
    rw c.in-Val.is (value (val_text c.in-Val.value) c.in-Val.value c.in_ok-write_val-in-Val.ensures.text)
