use Rattle.std.proofs.Common.{◌≡◌, ◌++◌, [], ◌∷◌, ℕ}
use Rattle.walrus_traversals.specs.Steps.Walking.{Does}
use Rattle.walrus_traversals.specs.declared.traversals.stack.Work.TheVariants.{Resume}
use Rattle.walrus_traversals.proofs.traversals.resume.Given as goal

abbrev pub invariant-loop-place : goal.invariant-loop-place
invariant-loop-place g l =
    (n : ℕ)
    × Does g.V.Visitor.step l.fn.func.body n l.fn.visitor (l.fn.stack.items ++ Resume l.fn.id l.fn.from ∷ [])
    l.visitor (l.fn.stack.items ++ Resume l.fn.id l.place ∷ []) × (l.stack.items ≡ l.fn.stack.items)
