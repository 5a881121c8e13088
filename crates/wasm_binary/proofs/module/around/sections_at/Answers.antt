use Rattle.std.proofs.Common.{arith}
use Rattle.wasm_binary.proofs.Modules.Passed.{none_passed, one_passed, less_left}
use Rattle.wasm_binary.proofs.module.around.sections_at.Goals as goal

pub loop-id-init : goal.loop-id-init
loop-id-init c = (
  none_passed c.args.bytes.now c.in-Ok.rest.now c.in-Ok.ensures,
  omega (arith, c.if-rest-left.false),
)

pub loop-id-smaller : goal.loop-id-smaller
loop-id-smaller c =
    let read = c.in-Some.ensures.read in
    less_left c.loop-id.rest.now c.in-Some.after.now read.0 c.loop-id.last c.in-Some.id read.1

pub loop-id-preserved : goal.loop-id-preserved
loop-id-preserved c =
    let read = c.in-Some.ensures.read in (
      rw c.place_after-last.ensures
          (one_passed c.args.bytes.now c.loop-id.rest.now c.in-Some.after.now read.0 c.loop-id.last
          c.in-Some.id c.loop-id.invariant.0 read.1),
      c.in-Some.ensures.left,
    )
