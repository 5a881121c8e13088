use Rattle.std.proofs.Common.{◌≡◌, ℕ, ◌<◌}
use Rattle.walrus_sections.specs.NormalForm.{image}
use Rattle.walrus_normal_form_check.proofs.anchors.is_kept.Given as goal

abbrev pub invariant-loop-earlier : goal.invariant-loop-earlier
invariant-loop-earlier l = (j : ℕ) → j < l.earlier → ¬ (image l.map j ≡ image l.map l.index)
