use Rattle.std.proofs.Common.{◌≡◌, ℕ, ◌<◌}
use Rattle.std.specs.List.{slice_index}
use Rattle.walrus_normal_form_check.proofs.places.Place.names_another.Given as goal

abbrev pub invariant-loop-name : goal.invariant-loop-name
invariant-loop-name l = (j : ℕ) → j < l.name-index → slice_index l.names j ≡ l.index
