use Rattle.std.proofs.Common.{arith}
use Rattle.wasm_module.proofs.TypelessInstructions.{mem_arg_passed}
use Rattle.wasm_module.proofs.typeless.behind_mem_arg.Goals as goal

pub returns : goal.returns
returns c =
    mem_arg_passed c.args.most c.in_ok-alignment.alignment c.args.bytes.now c.read_u32.new.input.now
    c.skip_u64.new.input.now c.in_ok-alignment.ensures (omega (arith, c.if-alignment-from.false, c.from.ensures))
    c.in_ok-skip_u64.ensures
