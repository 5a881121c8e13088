use Rattle.std.proofs.Common.{ℕ, ◌<◌, ◌≤◌}
use Rattle.walrus_sections.specs.NormalForm.{image, IsAnchor}
use Rattle.walrus_sections.specs.Section.{index_space_of_places}
use Rattle.walrus_normal_form_check.proofs.anchors.are_free.Given as goal

abbrev pub invariant-loop-index : goal.invariant-loop-index
invariant-loop-index l = (a : ℕ) → l.first ≤ a → a < l.index →
    ¬ IsAnchor (index_space_of_places l.section) (image l.map) a
