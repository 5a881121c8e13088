use Rattle.std.proofs.Common.{◌≡◌, ℕ, ◌<◌, length, Some}
use Rattle.walrus_sections.specs.Section.{index_space_of_places}
use Rattle.walrus_normal_form_check.proofs.indices.takes_recs_from_recs.Given as goal

abbrev pub invariant-loop-target : goal.invariant-loop-target
invariant-loop-target l = (p : ℕ) (x : ℕ × ℕ) → p < l.target →
    (index_space_of_places l.output).rec_position p ≡ Some x → (i : ℕ) × (i < length l.section)
    × ((index_space_of_places l.section).rec_position i ≡ Some x)
