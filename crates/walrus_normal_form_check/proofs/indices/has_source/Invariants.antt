use Rattle.std.proofs.Common.{◌≡◌, ℕ, ◌<◌}
use Rattle.walrus_sections.specs.NormalForm.{image}
use Rattle.walrus_normal_form_check.proofs.indices.has_source.Given as goal

abbrev pub invariant-loop-index : goal.invariant-loop-index
invariant-loop-index l = (i : ℕ) → i < l.index → ¬ (image l.map i ≡ l.target)
