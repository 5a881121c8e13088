use Rattle.std.proofs.Common.{refl, arith, length}
use Rattle.std.proofs.lemmas.Option.{slice_get_read}
use Rattle.walrus_canonical.proofs.waiting.Waits.new.Goals as goal

pub loop-at-preserved : goal.loop-at-preserved
loop-at-preserved c = λ rising.
    let pairs = c.args.pairs.items in
    c.in_ok-push_starts.ensures pairs c.index.result.now rising
    (slice_get_read pairs (length pairs) c.loop-at.at c.index.result.now refl (omega arith)
    c.index.ensures) refl (c.loop-at.invariant rising)
