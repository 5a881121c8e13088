use Rattle.std.proofs.Common.{◌<◌, length, arith}
use Rattle.walrus_passes.proofs.Mapping.{mapped-all, sequence-more}
use Rattle.walrus_passes.proofs.instrs.map_instrs.Goals as goal

pub loop-index-preserved : goal.loop-index-preserved
loop-index-preserved g c =
    let before = c.loop-index.invariant in
    let size = before.0.size in
    let below : c.loop-index.index < length c.loop-index.func.body.seqs = omega (arith, size) in
    sequence-more _ c.args.func.now c.loop-index.func c.loop-index.index c.from_index.result
    c.block_mut.result.now c.map_seq.new.seq before.0 before.1 below c.from_index.ensures
    c.block_mut.ensures.value c.map_seq.ensures

pub returns : goal.returns
returns g c =
    let before = c.loop-index.invariant in
    let size = before.0.size in
    record {
      seqs = mapped-all _ c.args.func.now.body.seqs c.loop-index.func.body.seqs c.loop-index.index before.0
          (omega (arith, size));
      same = before.1;
    }
