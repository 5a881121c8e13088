use Rattle.std.proofs.lemmas.Result.{on_ok_weaker}
use Rattle.wasm_binary.specs.Grammar.{array}
use Rattle.wasm_binary.specs.Steps.Writing.{field_text}
use Rattle.wasm_binary.proofs.Texts.{function_is, struct_is}
use Rattle.wasm_binary.proofs.encode.composite.write_comp.Goals as goal

pub returns-in_ok-write_vec-in-Function-clause-text : goal.returns-in_ok-write_vec-in-Function-clause-text
returns-in_ok-write_vec-in-Function-clause-text c =
    on_ok_weaker c.write_vec-in-Function.result
    (λ h. rw c.in-Function.is (function_is c.in-Function.params c.in-Function.results c.as_slice.result.now
    c.as_slice-in-Function.result.now c.as_slice.ensures c.as_slice-in-Function.ensures
    c.in_ok-write_vec-in-Function.ensures.text h))
    c.write_vec-in-Function.ensures.text

pub returns-in_ok-push-in-Struct-clause-text : goal.returns-in_ok-push-in-Struct-clause-text
returns-in_ok-push-in-Struct-clause-text c =
    on_ok_weaker c.write_vec-in-Struct.result
    (λ h. rw c.in-Struct.is (struct_is c.in-Struct.fields c.as_slice-in-Struct.result.now
    c.as_slice-in-Struct.ensures h))
    c.write_vec-in-Struct.ensures.text

pub returns-in_ok-write_field-in-Array-clause-text : goal.returns-in_ok-write_field-in-Array-clause-text
returns-in_ok-write_field-in-Array-clause-text c =
    rw c.in-Array.is (array (field_text c.in-Array.field) c.in-Array.field
    c.in_ok-write_field-in-Array.ensures.text)
