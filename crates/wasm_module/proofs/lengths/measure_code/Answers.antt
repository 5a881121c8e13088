use Rattle.std.proofs.Common.{◌≡◌, arith, subst}
use Rattle.wasm_module.specs.Steps.Lengths.{TakesBodies}
use Rattle.wasm_module.proofs.TypeLengths.{no_bodies, bodies_on, code_measured}
use Rattle.wasm_module.proofs.WholeTexts.{empty}
use Rattle.wasm_module.proofs.lengths.measure_code.Goals as goal

pub loop-init : goal.loop-init
loop-init c = no_bodies c.read_u32.new.input.now c.args.lengths.now.items

pub loop-preserved : goal.loop-preserved
loop-preserved c =
    bodies_on c.loop.counter c.read_u32.new.input.now c.loop.rest.now c.measure_body.new.input.now
    c.args.lengths.now.items c.loop.lengths.items c.measure_body.new.lengths.items c.loop.invariant
    c.in_ok-measure_body.ensures

pub returns : goal.returns
returns c =
    let all : c.loop.counter ≡ c.in-Some.count = omega (arith, c.loop.auto.counter-end, c.loop-test.false) in
    code_measured c.args.content.now c.in-Some.count c.read_u32.new.input.now c.loop.rest.now
    c.args.lengths.now.items c.loop.lengths.items c.in-Some.ensures
    (subst (λ k. TakesBodies k c.read_u32.new.input.now c.loop.rest.now c.args.lengths.now.items
    c.loop.lengths.items) all c.loop.invariant) (empty c.loop.rest.now c.if-not-is_empty.ensures)
