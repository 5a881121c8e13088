use Rattle.std.proofs.Common.{ℕ, ◌<◌, length}
use Rattle.walrus_sections.specs.NormalForm.{image}
use Rattle.walrus_normal_form_check.proofs.indices.maps_below.Given as goal

abbrev pub invariant-loop-index : goal.invariant-loop-index
invariant-loop-index l = (i : ℕ) → i < l.index → image l.map i < length l.output
