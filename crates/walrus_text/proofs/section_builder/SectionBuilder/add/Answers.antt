use Rattle.walrus_text.proofs.section_builder.SectionBuilder.add.Goals as goal

pub returns-in-Begin-clause-refused : goal.returns-in-Begin-clause-refused
returns-in-Begin-clause-refused c = rw c.in-Begin.is c.begin_group.ensures.refused

pub returns-in-End-clause-refused : goal.returns-in-End-clause-refused
returns-in-End-clause-refused c = rw c.in-End.is c.end_group.ensures.refused
