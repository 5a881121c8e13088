use Rattle.std.proofs.Common.{get_or, arith}
use Rattle.std.proofs.lemmas.Option.{slice_get-get_or}
use Rattle.walrus_canonical.specs.declared.waiting.Wait.{Wait}
use Rattle.walrus_canonical.proofs.Waits.OpenWaits.{one_counted}
use Rattle.walrus_canonical.proofs.waiting.wait_counts.Goals as goal

pub loop-wait-preserved : goal.loop-wait-preserved
loop-wait-preserved c =
    let waits = c.args.waits.now in
    let at = c.loop-wait.wait-index in
    let none : Wait = record { named = 0; waiting = 0 } in
    one_counted waits at (get_or waits at none) c.args.class_count c.loop-wait.counts.items
    c.add_one.new.counts.items (slice_get-get_or waits at none (omega arith)) (omega arith)
    c.loop-wait.invariant
    c.add_one.ensures.long c.add_one.ensures.there c.add_one.ensures.others
