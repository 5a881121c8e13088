use Rattle.std.proofs.Common.{◌≡◌, ◌≤◌, drop, length}
use Rattle.walrus_nesting.specs.Pushing.{Pushes}
use Rattle.walrus_nesting.specs.Steps.Searching.{children_in}
use Rattle.walrus_nesting.specs.declared.nesting.search.Work.TheVariants.{Enter}
use Rattle.walrus_nesting.proofs.nesting.search.push_all.Given as goal

abbrev pub invariant-loop-i : goal.invariant-loop-i
invariant-loop-i l = record {
  within : l.i ≤ length l.instrs;
  pushed : Pushes (λ id w. w ≡ Enter id) (children_in (drop l.i l.instrs)) l.initial.work.items l.work.items;
}

abbrev pub decreases-loop-i : goal.decreases-loop-i
decreases-loop-i l = l.i
