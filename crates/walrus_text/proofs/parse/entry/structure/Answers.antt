use Rattle.std.proofs.Common.{sym, ◌∙◌}
use Rattle.walrus_text.specs.Words.{words_of}
use Rattle.walrus_text.proofs.Parsing.Entries.{more_after_fields, not_blank}
use Rattle.walrus_text.proofs.parse.entry.structure.Goals as goal

pub returns-then-not-is_blank-clause-none : goal.returns-then-not-is_blank-clause-none
returns-then-not-is_blank-clause-none c =
    let more = not_blank (words_of c.in_ok-fields.rest.now) (sym c.is_blank.ensures ∙ c.if-not-is_blank.true)
    in
    more_after_fields (words_of c.args.line.now) (words_of c.in_ok-fields.rest.now)
    c.in_ok-fields.fields.items
    c.in_ok-fields.ensures.read c.in_ok-fields.ensures.stops more
