-- Walks whose hook calls are counted.
use Rattle.std.specs.Prelude.{◌≡◌, ℕ, suc}
use Rattle.walrus_ir.specs.Calls.{Full, Partial, StepRelation}
use Rattle.walrus_ir.specs.Hooks.{Hook, Given}
use Rattle.walrus_functions.specs.Body.{Body}
use Rattle.walrus_traversals_mut.specs.Walks.{Walks}

module _ {V : Type 0} where
  -- each step of a visitor with a budget is one of the visitor, and takes one from the budget; with
  -- none left there is no step
  abbrev pub with_budget : StepRelation V → StepRelation (V × ℕ)
  with_budget step hook v x w y = step hook v.0 x w.0 y × (v.1 ≡ suc w.1)

  -- the walk that is cut after k hook calls: its budget is k, and all of it is spent
  abbrev pub CutWalk : StepRelation V → ℕ → V × Body → ℕ → V × Body → Type 0
  CutWalk step k s id t = Walks (with_budget step) ((s.0, k), s.1) id Partial ((t.0, 0), t.1)

  -- the full walk that makes k hook calls: its budget is k, and all of it is spent
  abbrev pub CountedWalk : StepRelation V → ℕ → V × Body → ℕ → V × Body → Type 0
  CountedWalk step k s id t = Walks (with_budget step) ((s.0, k), s.1) id Full ((t.0, 0), t.1)

  -- what a hook leaves is determined by what it is given
  abbrev pub IsFunction : StepRelation V → Type 0
  IsFunction step =
      (hook : Hook) (v : V) (x : Given hook) (w : V) (y : Given hook) (u : V) (z : Given hook)
      → step hook v x w y → step hook v x u z → (w ≡ u) × (y ≡ z)
