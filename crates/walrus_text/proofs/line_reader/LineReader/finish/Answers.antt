use Rattle.std.proofs.Common.{◌≡◌, sym, ◌∙◌}
use Rattle.walrus_text.specs.Words.{all_lines, lines_with_words}
use Rattle.walrus_text.specs.Steps.Builder.{builder_lines}
use Rattle.walrus_text.proofs.Gathering.Bytes.{first_bad, lacks_end, words_of_all}
use Rattle.walrus_text.proofs.line_reader.LineReader.finish.Goals as goal

pub returns-in-Some-clause-refused : goal.returns-in-Some-clause-refused
returns-in-Some-clause-refused c = λ bytes h short.
    first_bad c.in-Some.bad bytes short (rw c.in-Some.is at (c.in_ok-end_last_line.ensures bytes h).checked)

pub returns-in-Some-finish-clause-read : goal.returns-in-Some-finish-clause-read
returns-in-Some-finish-clause-read c = λ bytes h.
    let built : lines_with_words (all_lines bytes) ≡ builder_lines c.end_last_line.new.self.section =
    rw c.in_default.is at (c.in_ok-end_last_line.ensures bytes h).checked in
    sym (words_of_all bytes) ∙ (built ∙ sym c.in-Some-finish.ensures.found)

pub returns-in-Some-finish-clause-fits : goal.returns-in-Some-finish-clause-fits
returns-in-Some-finish-clause-fits c = λ bytes h.
    c.in-Some-finish.ensures.fits (c.in_ok-end_last_line.ensures bytes h).fits

pub returns-clause-refused : goal.returns-clause-refused
returns-clause-refused c = λ bytes h short.
    let read = c.in_ok-end_last_line.ensures bytes h in
    let built : lines_with_words (all_lines bytes) ≡ builder_lines c.end_last_line.new.self.section =
    rw c.in_default.is at read.checked in
    lacks_end c.end_last_line.new.self.lines c.saturating_add.result c.end_last_line.new.self.section bytes
    short c.saturating_add.ensures read.counted read.fits built c.in-None.ensures.none
