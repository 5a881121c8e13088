use Rattle.walrus_text.proofs.Gathering.Bytes.{line_read}
use Rattle.walrus_text.proofs.line_reader.LineReader.end_line.Goals as goal

pub returns-clause-read : goal.returns-clause-read
returns-clause-read c = λ bytes h. line_read c.args.self.now _ c.saturating_add-self.result bytes
    c.clear.ensures.items c.in_ok-check_line.ensures.lines c.saturating_add-self.ensures
    c.in_ok-check_line.ensures.checked c.in_ok-check_line.ensures.fits h
