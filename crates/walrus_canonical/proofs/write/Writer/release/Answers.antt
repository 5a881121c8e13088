use Rattle.std.proofs.Common.{◌≡◌, List, length, get_or, slice_get, Some, refl, ap, subst, arith}
use Rattle.std.proofs.lemmas.Option.{slice_get-get_or}
use Rattle.walrus_canonical.specs.declared.waiting.Wait.{Wait}
use Rattle.walrus_canonical.specs.Steps.Writing.{release_of, with_slots}
use Rattle.walrus_canonical.proofs.Output.ReleasedClasses.{none_before, next_pair, none_behind}
use Rattle.walrus_canonical.proofs.write.Writer.release.Goals as goal

pub loop-at-init : goal.loop-at-init
loop-at-init c = record {
  within = c.before-at.ensures.bound;
  released = λ task done before can undone h. record {
    begun = h.begun;
    written = h.written;
    counts = none_before task c.args.waits.now done c.args.first c.args.end c.before-at.result
        c.before-at-end.result undone (c.before-at.ensures.before can.are.rising)
        (c.before-at-end.ensures.before can.are.rising) _ c.before-at.ensures.bound h.counts;
    queue = h.queue;
  };
}

pub loop-at-preserved : goal.loop-at-preserved
loop-at-preserved c =
    let waits = c.args.waits.now in
    let at = c.loop-at.at in
    let none : Wait = record { named = 0; waiting = 0 } in
    let seen = c.as_slice.result.now in
    let w = get_or seen at none in
    let less = c.loop-at-test.true in
    let bound = c.before-at-end.ensures.bound in
    record {
      within = omega (arith, less, bound);
      released = λ task done before can undone h.
          c.in_ok-wait_less.ensures task (release_of waits done (with_slots done c.args.first c.args.end))
          before at can
          (next_pair task waits done c.args.first c.args.end c.before-at.result
          c.before-at-end.result undone (c.before-at.ensures.before can.are.rising)
          (c.before-at-end.ensures.before can.are.rising) at w.waiting w c.loop-at.auto.at less
          (subst (λ (ws : List Wait). slice_get ws at ≡ Some w) c.as_slice.ensures
          (slice_get-get_or seen at none
          (omega (arith, less, bound, ap (λ (ws : List Wait). length ws) c.as_slice.ensures)))) refl)
          (c.loop-at.invariant.released task done before can undone h);
    }

pub returns : goal.returns
returns c = λ task done before can undone h. (
    let r = c.loop-at.invariant.released task done before can undone h in record {
      begun = r.begun;
      written = r.written;
      counts = none_behind task c.args.waits.now done c.args.first c.args.end c.before-at.result
          c.before-at-end.result undone (c.before-at.ensures.before can.are.rising)
          (c.before-at-end.ensures.before can.are.rising) c.loop-at.at _ c.loop-at-test.false
          c.loop-at.invariant.within r.counts;
      queue = r.queue;
    })
