use Rattle.std.proofs.Common.{◌≡◌, ℕ, ◌<◌}
use Rattle.walrus_ty.specs.Definition.{rename}
use Rattle.walrus_sections.specs.NormalForm.{image}
use Rattle.walrus_sections.specs.Section.{index_space_of_places}
use Rattle.walrus_normal_form_check.proofs.definitions.carries_definitions.Given as goal

abbrev pub invariant-loop-index : goal.invariant-loop-index
invariant-loop-index l = (i : ℕ) → i < l.index →
    (index_space_of_places l.output).definition (image l.map i) ≡ rename (image l.map)
    ((index_space_of_places l.section).definition i)
