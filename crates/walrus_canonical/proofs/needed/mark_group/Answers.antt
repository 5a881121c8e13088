use Rattle.std.proofs.Common.{◌≤◌, ◌<◌, arith}
use Rattle.walrus_canonical.proofs.Needs.Marking.{marked_same}
use Rattle.walrus_canonical.proofs.needed.mark_group.Goals as goal

pub returns : goal.returns
returns c =
    marked_same _ _ (λ i. (c.args.start ≤ i) × (i < c.loop-at.at) × (i < c.args.end))
    (λ i. (c.args.start ≤ i) × (i < c.args.end)) c.loop-at.invariant (λ i h. (h.0, h.2))
    (λ i h. (h.0, omega (arith, h.1, c.loop-at-test.false), h.1))
