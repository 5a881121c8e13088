use Rattle.std.proofs.Common.{◌≡◌, ℕ, ◌<◌, Some}
use Rattle.walrus_sections.specs.NormalForm.{image}
use Rattle.walrus_sections.specs.Section.{index_space_of_places}
use Rattle.walrus_normal_form_check.proofs.indices.sends_recs_to_recs.Given as goal

abbrev pub invariant-loop-index : goal.invariant-loop-index
invariant-loop-index l = (i : ℕ) (x : ℕ × ℕ) → i < l.index →
    (index_space_of_places l.section).rec_position i ≡ Some x →
    (index_space_of_places l.output).rec_position (image l.map i) ≡ Some x
