use Rattle.std.proofs.Common.{sym, ◌∙◌}
use Rattle.walrus_text.proofs.Gathering.Bytes.{still_bad, newly_bad}
use Rattle.walrus_text.proofs.line_reader.LineReader.check_line.Goals as goal

pub returns-then-is_some-clause-checked : goal.returns-then-is_some-clause-checked
returns-then-is_some-clause-checked c = λ lines counted fits h.
    still_bad c.args.self.now.section c.args.self.now.bad (sym c.is_some.ensures ∙ c.if-is_some.true) lines
    c.args.self.now.line.items h

pub returns-then-not-branch-clause-checked : goal.returns-then-not-branch-clause-checked
returns-then-not-branch-clause-checked c = λ lines counted fits h.
    newly_bad c.args.self.now.section c.args.self.now.bad (sym c.is_some.ensures ∙ c.if-is_some.false)
    c.bad_line.result c.args.self.now.line.items (c.in_ok-add_line.ensures.refused c.if-not-branch.true)
    lines (λ few. c.bad_line.ensures ∙ (c.in_ok-add_line.ensures.lines ∙ counted few)) fits h
