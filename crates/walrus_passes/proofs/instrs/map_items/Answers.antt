use Rattle.std.proofs.Common.{◌<◌, length, arith}
use Rattle.walrus_passes.proofs.Mapping.{mapped-more, mapped-all}
use Rattle.walrus_passes.proofs.instrs.map_items.Goals as goal

pub loop-i-preserved : goal.loop-i-preserved
loop-i-preserved g c =
    let before = c.loop-i.invariant in
    let size = before.size in
    let below : c.loop-i.i < length c.loop-i.items.items = omega (arith, size) in
    mapped-more _ c.args.items.now.items c.loop-i.items.items c.loop-i.i c.index_mut.result.now
    c.map_item.new.item before below c.index_mut.ensures.value c.map_item.ensures

pub returns : goal.returns
returns g c =
    let before = c.loop-i.invariant in
    let size = before.size in
    mapped-all _ c.args.items.now.items c.loop-i.items.items c.loop-i.i before (omega (arith, size))
