use Rattle.std.proofs.Common.{ℕ, List, ◌∙◌, ap, ◌++◌, ◌+◌, ◌∷◌, [], append_assoc, refl}
use Rattle.std.specs.List.{range_with_len}
use Rattle.walrus_ty.proofs.Basics.{range_push}
use Rattle.walrus_normal_form.proofs.read.push_slots.Goals as goal

pub loop-k-preserved : goal.loop-k-preserved
loop-k-preserved c =
    c.in_ok-push.ensures.items
    ∙ (ap (λ (ns : List ℕ). ns ++ (c.args.first + c.loop-k.k) ∷ []) c.loop-k.invariant
    ∙ (append_assoc c.args.slots.now.items (range_with_len c.args.first c.loop-k.k)
    ((c.args.first + c.loop-k.k) ∷ []) ∙ ap (λ (ns : List ℕ). c.args.slots.now.items ++ ns)
    (range_push c.args.first c.loop-k.k (c.args.first + c.loop-k.k) refl)))
