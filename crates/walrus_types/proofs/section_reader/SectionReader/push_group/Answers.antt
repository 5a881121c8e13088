use Rattle.std.proofs.Common.{rules}
use Rattle.walrus_types.proofs.Reading.ReaderCalls.{read_kept}
use Rattle.walrus_types.proofs.section_reader.SectionReader.push_group.Goals as goal

pub returns-in-Single-clause-refusal : goal.returns-in-Single-clause-refusal
returns-in-Single-clause-refusal c = search rules

pub returns-in-Single-clause-kept : goal.returns-in-Single-clause-kept
returns-in-Single-clause-kept c = λ s is. read_kept s c.args.self.now c.push_single.new.self
    c.push_single.result c.push_single.ensures.err is

pub returns-in-Rec-clause-kept : goal.returns-in-Rec-clause-kept
returns-in-Rec-clause-kept c = λ s is. read_kept s c.args.self.now c.push_rec.new.self c.push_rec.result
    c.push_rec.ensures.err is
