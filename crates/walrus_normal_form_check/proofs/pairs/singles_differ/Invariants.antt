use Rattle.std.proofs.Common.{ℕ, ◌<◌}
use Rattle.walrus_normal_form_check.specs.Steps.Pairs.{Differ}
use Rattle.walrus_sections.specs.Section.{index_space_of_places}
use Rattle.walrus_normal_form_check.proofs.pairs.singles_differ.Given as goal

abbrev pub invariant-loop-later : goal.invariant-loop-later
invariant-loop-later l = (p q : ℕ) → p < q → q < l.later → Differ (index_space_of_places l.output) p q
