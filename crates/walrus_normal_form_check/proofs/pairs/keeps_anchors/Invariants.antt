use Rattle.std.proofs.Common.{ℕ, ◌<◌}
use Rattle.walrus_normal_form_check.specs.Steps.Pairs.{KeepsAnchors}
use Rattle.walrus_sections.specs.NormalForm.{image}
use Rattle.walrus_sections.specs.Section.{index_space_of_places}
use Rattle.walrus_normal_form_check.proofs.pairs.keeps_anchors.Given as goal

abbrev pub invariant-loop-later : goal.invariant-loop-later
invariant-loop-later l = (i j : ℕ) → i < j → j < l.later →
    KeepsAnchors (index_space_of_places l.section) (image l.map) i j
