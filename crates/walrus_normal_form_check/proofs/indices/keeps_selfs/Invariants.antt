use Rattle.std.proofs.Common.{ℕ, ◌<◌}
use Rattle.walrus_ty.specs.Definition.{Names}
use Rattle.walrus_sections.specs.NormalForm.{IsKept, image}
use Rattle.walrus_sections.specs.Section.{index_space_of_places, IsSingle}
use Rattle.walrus_normal_form_check.proofs.indices.keeps_selfs.Given as goal

abbrev pub invariant-loop-index : goal.invariant-loop-index
invariant-loop-index l = (i : ℕ) → i < l.index → IsSingle (index_space_of_places l.section) i →
    Names ((index_space_of_places l.section).definition i) i → IsKept (image l.map) i
