use Rattle.std.proofs.Common.{sym, ◌∙◌}
use Rattle.walrus_text.proofs.Gathering.Prefixes.{second_rec}
use Rattle.walrus_text.proofs.section_builder.SectionBuilder.begin_group.Goals as goal

pub returns-then-is_some-clause-refused : goal.returns-then-is_some-clause-refused
returns-then-is_some-clause-refused c = λ _.
    second_rec c.args.self.now (sym c.is_some.ensures ∙ c.if-is_some.true)
