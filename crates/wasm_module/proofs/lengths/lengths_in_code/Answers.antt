use Rattle.std.proofs.Common.{Some, None}
use Rattle.wasm_module.specs.Lengths.{HasContent, no_code}
use Rattle.wasm_module.specs.NamedTypes.{code_id}
use Rattle.wasm_module.proofs.Changing.{if_none, if_some}
use Rattle.wasm_module.proofs.ModuleLengths.{code_found}
use Rattle.wasm_module.proofs.lengths.lengths_in_code.Goals as goal

pub returns-in_default : goal.returns-in_default
returns-in_default c = rw c.new.ensures.items (no_code (if_none c.in_ok-code.field-0
    (HasContent code_id c.args.bytes.now None) c.in_default.not-Some c.in_ok-code.ensures.none))

pub returns : goal.returns
returns c =
    code_found c.args.bytes.now c.in-Some.code.now c.new-lengths.result.items
    c.measure_content.new.lengths.items c.new-lengths.ensures.items
    (if_some c.in_ok-code.field-0 c.in-Some.code (λ content. HasContent code_id c.args.bytes.now
    (Some content.now)) c.in-Some.is c.in_ok-code.ensures.found) c.in_ok-measure_content.ensures
