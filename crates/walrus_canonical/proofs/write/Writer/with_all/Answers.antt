use Rattle.std.proofs.Common.{false, arith}
use Rattle.walrus_canonical.proofs.Output.WrittenTurns.{first_turn, next_turn, last_turn}
use Rattle.walrus_canonical.proofs.write.Writer.with_all.Goals as goal

pub loop-turn-init : goal.loop-turn-init
loop-turn-init c = λ task are h. first_turn task c.args.waits.now (λ x. false) c.args.self h

pub loop-turn-preserved : goal.loop-turn-preserved
loop-turn-preserved c = λ task are h. (
    let t = c.loop-turn.invariant task are h in
    next_turn task c.args.waits.now c.loop-turn._turn c.loop-turn.writer c.write_least.new.self t
    (c.in_ok-write_least.ensures task t.done t.before are t.writing))

pub returns : goal.returns
returns c = λ task are fits h.
    last_turn task c.args.waits.now c.loop-turn._turn c.loop-turn.writer are (omega (arith, fits))
    (c.loop-turn.invariant task are h)
