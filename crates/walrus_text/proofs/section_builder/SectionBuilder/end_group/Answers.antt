use Rattle.std.proofs.Common.{sym, ◌∙◌}
use Rattle.walrus_text.proofs.Gathering.Prefixes.{early_end}
use Rattle.walrus_text.proofs.section_builder.SectionBuilder.end_group.Goals as goal

pub returns-in_default-clause-refused : goal.returns-in_default-clause-refused
returns-in_default-clause-refused c = λ _. early_end c.args.self.now (sym c.take.ensures.value
    ∙ c.in_default.is)
