use Rattle.std.proofs.Common.{ℕ, ◌<◌}
use Rattle.walrus_sections.specs.NormalForm.{image}
use Rattle.walrus_sections.specs.Section.{index_space_of_places, IsSingle}
use Rattle.walrus_normal_form_check.proofs.indices.sends_singles_to_singles.Given as goal

abbrev pub invariant-loop-index : goal.invariant-loop-index
invariant-loop-index l = (i : ℕ) → i < l.index → IsSingle (index_space_of_places l.section) i →
    IsSingle (index_space_of_places l.output) (image l.map i)
