use Rattle.wasm_binary.specs.Grammar.{i32, i64, f32, f64, v128, ref}
use Rattle.wasm_binary.specs.Steps.Writing.{reference_text}
use Rattle.wasm_binary.proofs.encode.value.write_val.Goals as goal

pub returns-in_ok-push-in-I32-clause-text : goal.returns-in_ok-push-in-I32-clause-text
returns-in_ok-push-in-I32-clause-text c = rw c.in-I32.is i32

pub returns-in_ok-push-in-I64-clause-text : goal.returns-in_ok-push-in-I64-clause-text
returns-in_ok-push-in-I64-clause-text c = rw c.in-I64.is i64

pub returns-in_ok-push-in-F32-clause-text : goal.returns-in_ok-push-in-F32-clause-text
returns-in_ok-push-in-F32-clause-text c = rw c.in-F32.is f32

pub returns-in_ok-push-in-F64-clause-text : goal.returns-in_ok-push-in-F64-clause-text
returns-in_ok-push-in-F64-clause-text c = rw c.in-F64.is f64

pub returns-in_ok-push-in-V128-clause-text : goal.returns-in_ok-push-in-V128-clause-text
returns-in_ok-push-in-V128-clause-text c = rw c.in-V128.is v128

pub returns-in_ok-write_reference-in-Ref-clause-text : goal.returns-in_ok-write_reference-in-Ref-clause-text
returns-in_ok-write_reference-in-Ref-clause-text c =
    rw c.in-Ref.is (ref (reference_text c.in-Ref.reference) c.in-Ref.reference
    c.in_ok-write_reference-in-Ref.ensures.text)
