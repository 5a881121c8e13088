-- Lemmas on visitors that pass on one kind of what walks report.
use Rattle.std.proofs.Common.{List, [], ◌∷◌, ◌++◌, Option, Some, None, subst, option_to_list}
use Rattle.std.specs.List.{FoldsTo}
use Rattle.walrus_ir.specs.Calls.{Event}
use Rattle.walrus_traversals.specs.OneHook.{step_of, step_at, all_given}

module _ {V A : Type 0} (given : Event → Option A) (step : V → A → V → Type 0) where
  next : (o : Option A) (v u w : V) (xs : List A) →
      step_of step v o u → FoldsTo step u xs w → FoldsTo step v (option_to_list o ++ xs) w
  next (Some x) v u w xs s h = (u, s, h)
  next None v u w xs s h = let F : V → Type 0 = λ z. FoldsTo step z xs w in subst F s h

  -- a visitor is passed what the events give
  pub passed_on : (es : List Event) (v w : V) →
      FoldsTo (step_at given step) v es w → FoldsTo step v (all_given given es) w
  passed_on [] v w h = h
  passed_on (e ∷ es) v w h = next (given e) v h.0 w (all_given given es) h.1 (passed_on es h.0 w h.2)
