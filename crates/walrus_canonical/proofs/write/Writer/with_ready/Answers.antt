use Rattle.std.proofs.Common.{arith}
use Rattle.walrus_canonical.proofs.Output.WriterStates.{opens_the_writing}
use Rattle.walrus_canonical.proofs.write.Writer.with_ready.Goals as goal

pub loop-place-preserved : goal.loop-place-preserved
loop-place-preserved c = λ task waits are h. (
    c.in_ok-push_if_ready.ensures task waits are
    (omega (arith, h.counts.one_each, c.len-place-end.ensures, c.args.self.counts.ok.0))
    (c.loop-place.invariant task waits are h))

pub returns : goal.returns
returns c = λ task waits are h. (
    opens_the_writing task waits c.loop-place.place c.loop-place.writer are
    (omega (arith, h.counts.one_each, c.len-place-end.ensures, c.args.self.counts.ok.0))
    (c.loop-place.invariant task waits are h))
