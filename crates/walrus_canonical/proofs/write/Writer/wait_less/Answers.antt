use Rattle.std.proofs.Common.{refl}
use Rattle.std.proofs.lemmas.Result.{on_ok_weaker}
use Rattle.walrus_canonical.proofs.Output.WriterStates.{on_ok_each, released_ready, released_waits}
use Rattle.walrus_canonical.proofs.write.Writer.wait_less.Goals as goal

pub returns-then-take_one : goal.returns-then-take_one
returns-then-take_one c =
    let lower = c.take_one.new.counts.items in
    on_ok_weaker c.push_ready.result (λ put task r before at can n h.
    released_ready task r.waits r.done r.after before at c.args.place can n c.args.self.now
    c.push_ready.new.self
    lower h c.take_one.ensures.long c.take_one.ensures.there c.take_one.ensures.others
    c.push_ready.ensures.counts c.push_ready.ensures.indices c.push_ready.ensures.next
    c.push_ready.ensures.written (λ m e. c.take_one.ensures.zero m e c.if-take_one.true) put
    c.push_ready.ensures.firsts c.push_ready.ensures.others)
    (on_ok_each _ _ c.push_ready.result c.push_ready.ensures.ready)

pub returns-else-take_one : goal.returns-else-take_one
returns-else-take_one c = λ task r before at can n h.
    released_waits task r.waits r.done r.after before at c.args.place can n c.args.self.now _
    c.take_one.new.counts.items h c.take_one.ensures.long c.take_one.ensures.there c.take_one.ensures.others
    refl refl refl refl (λ m e. c.take_one.ensures.some m e c.if-take_one.false) refl refl
