use Rattle.std.proofs.Common.{arith}
use Rattle.wasm_module.proofs.TypelessInstructions.{instructions_joined, instructions_shorter}
use Rattle.wasm_module.proofs.typeless.skip_instructions.Goals as goal

pub loop-rest-init : goal.loop-rest-init
loop-rest-init c = c.skip_one_byte_immediates.ensures

pub loop-rest-smaller : goal.loop-rest-smaller
loop-rest-smaller c =
    let less = c.in-Some.ensures.shorter in
    let after = c.skip_one_byte_immediates-in-Some.new.input.now in
    let further = instructions_shorter c.in-Some.rest.now after c.skip_one_byte_immediates-in-Some.ensures in
    omega (arith, less, further)

pub loop-rest-preserved : goal.loop-rest-preserved
loop-rest-preserved c =
    let after = c.skip_one_byte_immediates-in-Some.new.input.now in
    let further = instructions_joined c.loop-rest.input.now c.in-Some.rest.now after
    c.in-Some.ensures.passed c.skip_one_byte_immediates-in-Some.ensures in
    instructions_joined c.args.input.now.now c.loop-rest.input.now after c.loop-rest.invariant further

pub returns : goal.returns
returns c = c.loop-rest.invariant
