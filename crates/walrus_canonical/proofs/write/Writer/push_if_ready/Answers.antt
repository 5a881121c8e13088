use Rattle.std.proofs.Common.{◌≡◌, ◌∙◌, ℕ, List, Some, slice_get, refl, sym, ap}
use Rattle.std.proofs.lemmas.Result.{on_ok_weaker}
use Rattle.walrus_canonical.proofs.Output.PushedClasses.{one_opened, one_waits}
use Rattle.walrus_canonical.proofs.Output.WriterStates.{on_ok_each, opening_kept}
use Rattle.walrus_canonical.proofs.write.Writer.push_if_ready.Goals as goal

pub returns-then-waits_for_none : goal.returns-then-waits_for_none
returns-then-waits_for_none c =
    let old = c.args.self.now in
    let new = c.push_ready.new.self in
    let none : slice_get old.counts.items c.args.place ≡ Some 0 =
    ap (λ (xs : List ℕ). slice_get xs c.args.place) (sym c.as_slice.ensures.value)
    ∙ c.waits_for_none.ensures.zero c.if-waits_for_none.true in
    on_ok_weaker c.push_ready.result (λ put task waits are low h.
    opening_kept task waits c.args.place old new c.push_ready.ensures.counts c.push_ready.ensures.indices
    c.push_ready.ensures.next c.push_ready.ensures.written h (λ queue.
    one_opened task waits are c.args.place old.new_index.items old.next h.begun old.counts.items h.counts
    old.classes.items old.ready queue new.classes.items new.ready low none put
    c.push_ready.ensures.firsts c.push_ready.ensures.others))
    (on_ok_each _ _ c.push_ready.result c.push_ready.ensures.ready)

pub returns-else-waits_for_none : goal.returns-else-waits_for_none
returns-else-waits_for_none c = λ task waits are low h.
    opening_kept task waits c.args.place c.args.self.now c.args.self.now refl refl refl refl h (λ queue.
    one_waits task waits are c.args.place c.args.self.now.new_index.items c.args.self.now.next h.begun
    c.args.self.now.counts.items h.counts c.args.self.now.classes.items c.args.self.now.ready queue
    (λ none. c.waits_for_none.ensures.some c.if-waits_for_none.false
    (ap (λ (xs : List ℕ). slice_get xs c.args.place) c.as_slice.ensures.value ∙ none)))
