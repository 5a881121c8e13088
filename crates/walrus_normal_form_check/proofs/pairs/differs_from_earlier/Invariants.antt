use Rattle.std.proofs.Common.{ℕ, ◌<◌}
use Rattle.walrus_normal_form_check.specs.Steps.Pairs.{Differ}
use Rattle.walrus_sections.specs.Section.{index_space_of_places}
use Rattle.walrus_normal_form_check.proofs.pairs.differs_from_earlier.Given as goal

abbrev pub invariant-loop-earlier : goal.invariant-loop-earlier
invariant-loop-earlier l = (p : ℕ) → p < l.earlier → Differ (index_space_of_places l.output) p l.later
