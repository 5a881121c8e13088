use Rattle.std.proofs.Common.{◌≡◌, length, arith}
use Rattle.walrus_canonical.specs.Steps.Waits.{AreWaits}
use Rattle.walrus_canonical.proofs.write.write_classes.Goals as goal

pub returns : goal.returns
returns c = λ task same slots fits. (
    let waits = c.in_ok-waits.waits in
    let are : AreWaits task.classes waits = rw same (rw c.as_slice.ensures.value at c.in_ok-waits.ensures) in
    let long : c.len-class_count.result ≡ length c.args.classes.items = omega arith in
    let counted = rw (c.as_slice-2.ensures, long) at c.in_ok-counts.ensures in
    let opening = c.in_ok-writer.ensures task waits same slots counted in
    let writing = c.in_ok-writer-2.ensures task waits are opening in
    rw c.finish.ensures (c.in_ok-writer-3.ensures task are fits writing))
