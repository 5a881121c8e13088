use Rattle.wasm_module.proofs.TypelessInstructions.{instructions_none, instructions_joined}
use Rattle.wasm_module.proofs.one_byte_immediates.skip_one_byte_immediates.Goals as goal

pub loop-rest-init : goal.loop-rest-init
loop-rest-init c = instructions_none c.args.input.now.now

pub loop-rest-smaller : goal.loop-rest-smaller
loop-rest-smaller c = c.in-Some.ensures.shorter

pub loop-rest-preserved : goal.loop-rest-preserved
loop-rest-preserved c =
    instructions_joined c.args.input.now.now c.loop-rest.input.now c.in-Some.rest.now c.loop-rest.invariant
    c.in-Some.ensures.passed

pub returns : goal.returns
returns c = c.loop-rest.invariant
