use Rattle.std.proofs.Common.{arith}
use Rattle.wasm_module.proofs.SizedContents.{sized_taken, sizeless, cut_off}
use Rattle.wasm_module.proofs.name_maps.take_sized.Goals as goal

pub returns-in_err-size-clause-none : goal.returns-in_err-size-clause-none
returns-in_err-size-clause-none c =
    rw c.from_residual.ensures (sizeless c.args.input.now.now c.read_u32.new.input.now c.in_err-size.ensures)

pub returns-then-size-behind-clause-none : goal.returns-then-size-behind-clause-none
returns-then-size-behind-clause-none c =
    cut_off c.args.input.now.now c.in_ok-size.field-0 c.read_u32.new.input.now c.in_ok-size.ensures
    (omega (arith, c.if-size-behind.true))

pub returns-clause-taken : goal.returns-clause-taken
returns-clause-taken c =
    sized_taken c.args.input.now.now c.in_ok-size.field-0 c.read_u32.new.input.now c.split_at.result.0.now
    c.split_at.result.1.now c.in_ok-size.ensures (omega (arith, c.if-size-behind.false))
    c.split_at.ensures.front c.split_at.ensures.back
