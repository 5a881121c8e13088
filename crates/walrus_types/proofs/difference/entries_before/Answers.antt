use Rattle.std.proofs.Common.{◌<◌, ◌+◌, arith, length}
use Rattle.walrus_types.proofs.EntryCounts.{count_more, count_part}
use Rattle.walrus_types.proofs.difference.entries_before.Goals as goal

pub overflow_add-count : goal.overflow_add-count
overflow_add-count c =
    let below : c.loop-before.before < length c.args.groups.now =
    omega (arith, c.loop-before-test.true, c.requires.within) in
    let more = count_more c.args.groups.now c.loop-before.before c.index-groups-before.result below
    c.index-groups-before.is in
    let part = count_part c.args.groups.now (c.loop-before.before + 1) in
    omega (arith, c.loop-before.invariant, c.entry_count-count.ensures, more, part, c.requires.few)

pub loop-before-preserved : goal.loop-before-preserved
loop-before-preserved c =
    let below : c.loop-before.before < length c.args.groups.now =
    omega (arith, c.loop-before-test.true, c.requires.within) in
    let more = count_more c.args.groups.now c.loop-before.before c.index-groups-before.result below
    c.index-groups-before.is in
    omega (arith, c.loop-before.invariant, c.entry_count-count.ensures, more)
