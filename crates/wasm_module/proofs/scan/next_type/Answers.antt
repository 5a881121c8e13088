use Rattle.std.proofs.Common.{◌∙◌, sym, ap, refl, arith}
use Rattle.wasm_module.specs.Immediates.{names_of}
use Rattle.wasm_module.specs.Steps.Heads.{seen}
use Rattle.wasm_module.proofs.TypelessInstructions.{passed_none, passed_next, passed_on, passed_shorter}
use Rattle.wasm_module.proofs.Scanning.{shorter, refused}
use Rattle.wasm_module.proofs.Searching.{passes_type, not_some, no_longer}
use Rattle.wasm_module.proofs.scan.next_type.Goals as goal

pub loop-kind-init : goal.loop-kind-init
loop-kind-init c = passed_none _ _

pub returns-in_default-read_head-clause-refused : goal.returns-in_default-read_head-clause-refused
returns-in_default-read_head-clause-refused c =
    λ text rest tokens parts h. refused _
    (passed_next c.loop-kind.invariant c.in-Some.ensures c.skip_typeless.ensures)
    c.in_default-read_head.ensures text rest tokens parts h

pub overflow_sub-result : goal.overflow_sub-result
overflow_sub-result c = no_longer c.in-Some.kind c.skip_typeless.new.input.now (seen c.in-Some-read_head.head)
    c.read_head.new.input.now c.in-Some-read_head.ensures

pub returns-in-Some-2-clause-passed : goal.returns-in-Some-2-clause-passed
returns-in-Some-2-clause-passed c =
    let e = c.in_ok-index.ensures in
    passes_type _ (passed_next c.loop-kind.invariant c.in-Some.ensures c.skip_typeless.ensures)
    c.in-Some-read_head.ensures e.stack (sym c.in-Some-2.is ∙ e.named) c.may_be_index.ensures refl

pub loop-kind-smaller : goal.loop-kind-smaller
loop-kind-smaller c =
    let after = c.skip_typeless.new.input.now in
    let less = shorter c.in-Some.kind after (seen c.in-Some-read_head.head) c.read_head.new.input.now
    c.in-Some-read_head.ensures in
    omega (arith, less, passed_shorter c.skip_typeless.ensures)

pub loop-kind-preserved : goal.loop-kind-preserved
loop-kind-preserved c =
    let e = c.in_ok-index.ensures in
    passed_on (passed_next c.loop-kind.invariant c.in-Some.ensures c.skip_typeless.ensures)
    c.in-Some-read_head.ensures e.stack
    (ap names_of (sym e.named ∙ not_some c.in_ok-index.field-0 c.in_default-2.not-Some))
