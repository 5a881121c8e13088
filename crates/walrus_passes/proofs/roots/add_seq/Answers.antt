use Rattle.ir_instr.specs.BlockTypes.{block_type_name}
use Rattle.walrus_passes.proofs.UsedTypes.{instrs_more}
use Rattle.walrus_passes.proofs.roots.add_seq.Goals as goal

pub loop-instr-preserved : goal.loop-instr-preserved
loop-instr-preserved c =
    instrs_more (block_type_name c.args.seq.now.ty) c.deref-instr-items.result.now c.loop-instr.instr-index
    c.loop-instr-item.result c.args.roots.now.visitor c.loop-instr.roots.visitor c.add_instr.new.roots.visitor
    c.loop-instr-test.true c.loop-instr-item.is c.loop-instr.invariant c.in_ok-add_instr.ensures
