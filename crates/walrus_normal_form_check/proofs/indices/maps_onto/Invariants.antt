use Rattle.std.proofs.Common.{◌≡◌, ℕ, ◌<◌, length}
use Rattle.walrus_sections.specs.NormalForm.{image}
use Rattle.walrus_normal_form_check.proofs.indices.maps_onto.Given as goal

abbrev pub invariant-loop-target : goal.invariant-loop-target
invariant-loop-target l = (p : ℕ) → p < l.target → (i : ℕ) × (i < length l.section) × (image l.map i ≡ p)
