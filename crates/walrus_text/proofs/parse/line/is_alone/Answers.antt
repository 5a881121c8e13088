use Rattle.std.proofs.Common.{sym, ◌∙◌}
use Rattle.walrus_text.specs.Words.{words_of}
use Rattle.walrus_text.proofs.Parsing.Entries.{not_alone}
use Rattle.walrus_text.proofs.parse.line.is_alone.Goals as goal

pub returns-clause-no : goal.returns-clause-no
returns-clause-no c = λ h.
    not_alone (words_of c.args.rest.now) c.args.word.now c.args.wanted.now (sym c.is_blank.ensures ∙ h)
