use Rattle.std.proofs.lemmas.Result.{on_ok_weaker}
use Rattle.wasm_binary.specs.Grammar.{abstract_type, index, exact_index}
use Rattle.wasm_binary.specs.Steps.Writing.{u32_text, s33_text}
use Rattle.wasm_binary.proofs.encode.value.write_heap.Goals as goal

pub returns-in_ok-push-in-Abstract-clause-text : goal.returns-in_ok-push-in-Abstract-clause-text
returns-in_ok-push-in-Abstract-clause-text c = rw c.in-Abstract.is (abstract_type c.in-Abstract.heap_type)

pub returns-in-Concrete-clause-text : goal.returns-in-Concrete-clause-text
returns-in-Concrete-clause-text c =
    on_ok_weaker c.push_s33.result (λ h. rw c.in-Concrete.is
    (index (s33_text c.in-Concrete.index) c.in-Concrete.index h)) c.push_s33.ensures.text

pub returns-in_ok-push-in-Exact-clause-text : goal.returns-in_ok-push-in-Exact-clause-text
returns-in_ok-push-in-Exact-clause-text c =
    on_ok_weaker c.push_u32.result (λ h. rw c.in-Exact.is
    (exact_index (u32_text c.in-Exact.index) c.in-Exact.index h)) c.push_u32.ensures.text
