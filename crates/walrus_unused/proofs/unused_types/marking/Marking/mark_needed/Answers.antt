use Rattle.std.proofs.Common.{◌<◌, sym, subst}
use Rattle.walrus_unused.specs.Steps.Marking.{State, MarksNeeded, steps_left, with_work}
use Rattle.walrus_unused.proofs.UnusedTypes.Reaching.{IsMarking, marking_begins, marking_goes_on, marking_shrinks, marking_ends}
use Rattle.walrus_unused.proofs.unused_types.marking.Marking.mark_needed.Goals as goal

pub loop-id-init : goal.loop-id-init
loop-id-init c =
    let t = c.args.types.now in
    let ids = c.args.roots.now in
    subst (IsMarking t ids) (sym c.in_ok-reach_all.ensures)
    (marking_begins t ids c.args.self.now c.requires.live c.requires.covers c.requires.unmarked)

pub loop-id-smaller : goal.loop-id-smaller
loop-id-smaller c =
    let t = c.args.types.now in
    let ids = c.args.roots.now in
    let marking = subst (IsMarking t ids) c.in-Some.ensures c.loop-id.invariant in
    subst (λ (s : State). steps_left c.visit.new.self < steps_left s) (sym c.in-Some.ensures)
    (subst (λ (s : State). steps_left s < steps_left (with_work c.in-Some.id c.next.new.self))
    (sym c.in_ok-visit.ensures) (marking_shrinks t ids c.next.new.self c.in-Some.id marking))

pub loop-id-preserved : goal.loop-id-preserved
loop-id-preserved c =
    let t = c.args.types.now in
    let ids = c.args.roots.now in
    let marking = subst (IsMarking t ids) c.in-Some.ensures c.loop-id.invariant in
    subst (IsMarking t ids) (sym c.in_ok-visit.ensures)
    (marking_goes_on t ids c.next.new.self c.in-Some.id marking)

pub returns : goal.returns
returns c =
    let t = c.args.types.now in
    let ids = c.args.roots.now in
    subst (λ (s : State). MarksNeeded t ids s) (sym c.in_default.ensures.1)
    (marking_ends t ids c.loop-id.self c.loop-id.invariant c.in_default.ensures.0)
