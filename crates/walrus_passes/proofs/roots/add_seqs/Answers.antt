use Rattle.walrus_passes.proofs.UsedTypes.{seqs_more}
use Rattle.walrus_passes.proofs.roots.add_seqs.Goals as goal

pub loop-id-preserved : goal.loop-id-preserved
loop-id-preserved c =
    seqs_more c.args.func.now.body c.args.ids.now c.loop-id.id-index c.id-item.result c.block.result.now
    c.args.roots.now.visitor c.loop-id.roots.visitor c.add_seq.new.roots.visitor c.loop-id-test.true
    c.id-item.is c.block.ensures c.loop-id.invariant c.in_ok-add_seq.ensures
