use Rattle.std.proofs.Common.{ℕ, List, [], ◌∷◌, length, length-append, ap, ◌∙◌, subst, sym, arith}
use Rattle.walrus_canonical.specs.Steps.Waits.{AreStarts}
use Rattle.walrus_canonical.proofs.Waits.ClassWaits.{one_start, one_more_known}
use Rattle.walrus_canonical.proofs.waiting.push_starts.Goals as goal

pub loop-slot-preserved : goal.loop-slot-preserved
loop-slot-preserved c =
    let starts = c.loop-slot.starts.items in
    let long = c.loop-slot.invariant.long in
    let pushed = c.in_ok-push.ensures.items in
    record {
      long = ap (λ (ns : List ℕ). length ns) pushed
          ∙ omega (arith, long, length-append starts (c.args.start ∷ []));
      are = λ pairs wait rising there same are.
          subst (λ (ns : List ℕ). AreStarts pairs c.args.start ns) (sym pushed)
          (one_start pairs rising c.args.start starts
          (c.loop-slot.invariant.are pairs wait rising there same are) wait there
          (omega (arith, long, same, c.loop-slot-test.true)));
    }

pub returns : goal.returns
returns c = λ pairs wait rising there same are.
    one_more_known pairs rising c.args.start c.loop-slot.starts.items
    (c.loop-slot.invariant.are pairs wait rising there same are) wait there
    (omega (arith, same, c.loop-slot.invariant.long, c.loop-slot-test.false))
