use Rattle.std.proofs.Common.{◌≡◌, ◌∙◌, ◌++◌, ap, sym, List, Some, slice_get, arith}
use Rattle.std.proofs.lemmas.Option.{slice_get-get_or}
use Rattle.walrus_canonical.specs.declared.classes.Class.{Class}
use Rattle.walrus_canonical.specs.declared.waiting.Wait.{Wait}
use Rattle.walrus_canonical.specs.Steps.Waits.{class_waits}
use Rattle.walrus_canonical.proofs.Waits.ClassWaits.{waits_one_more}
use Rattle.walrus_canonical.proofs.waiting.unsorted_waits.Goals as goal

pub loop-place-preserved : goal.loop-place-preserved
loop-place-preserved c =
    let place = c.loop-place.place in
    let class = c.index-classes-place.result in
    let at : slice_get c.args.classes.now place ≡ Some class =
    slice_get-get_or c.args.classes.now place class (omega arith)
    ∙ ap (λ (k : Class). Some k) (sym c.index-classes-place.is) in
    c.in_ok-push_class_waits.ensures (cc (c.clear.ensures.items))
    ∙ (ap (λ (ws : List Wait). ws ++ class_waits place class) c.loop-place.invariant
    ∙ sym (waits_one_more c.args.classes.now place class at))
