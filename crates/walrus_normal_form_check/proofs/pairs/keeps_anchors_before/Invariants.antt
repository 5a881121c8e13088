use Rattle.std.proofs.Common.{ℕ, ◌<◌}
use Rattle.walrus_normal_form_check.specs.Steps.Pairs.{KeepsAnchors}
use Rattle.walrus_sections.specs.NormalForm.{image}
use Rattle.walrus_sections.specs.Section.{index_space_of_places}
use Rattle.walrus_normal_form_check.proofs.pairs.keeps_anchors_before.Given as goal

abbrev pub invariant-loop-earlier : goal.invariant-loop-earlier
invariant-loop-earlier l = (i : ℕ) → i < l.earlier →
    KeepsAnchors (index_space_of_places l.section) (image l.map) i l.later
