use Rattle.wasm_module.proofs.Searching.{found_type, found_none, passes_shorter}
use Rattle.wasm_module.proofs.TypeLengths.{measure_begun, measured_on, text_measured}
use Rattle.wasm_module.proofs.WholeTexts.{empty}
use Rattle.wasm_module.proofs.lengths.measure_text.Goals as goal

pub loop-stack-init : goal.loop-stack-init
loop-stack-init c = measure_begun c.args.kinds c.args.bytes.now c.args.lengths.now.items

pub loop-stack-smaller : goal.loop-stack-smaller
loop-stack-smaller c = passes_shorter (found_type c.in-Some.is c.in_ok-found.ensures.passed)

pub loop-stack-preserved : goal.loop-stack-preserved
loop-stack-preserved c =
    measured_on c.loop-stack.invariant (found_type c.in-Some.is c.in_ok-found.ensures.passed) c.in_ok-push.ensures

pub returns : goal.returns
returns c =
    text_measured c.loop-stack.invariant
    (found_none c.in_ok-found.field-0 c.in_default.not-Some c.in_ok-found.ensures.passed)
    (empty c.next_type.new.input.now c.if-not-is_empty.ensures)
