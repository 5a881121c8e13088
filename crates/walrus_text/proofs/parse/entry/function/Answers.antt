use Rattle.std.proofs.Common.{sym, ◌∙◌}
use Rattle.walrus_text.specs.Words.{words_of}
use Rattle.walrus_text.proofs.Parsing.Entries.{no_arrow, more_after_results, not_blank}
use Rattle.walrus_text.proofs.parse.entry.function.Goals as goal

pub returns-in_default-clause-none : goal.returns-in_default-clause-none
returns-in_default-clause-none c =
    no_arrow (words_of c.args.line.now) (words_of c.in_ok-params.rest.now) c.in_ok-params.params.items
    c.in_ok-params.ensures.read c.in_ok-params.ensures.stops c.in_default.ensures.none

pub returns-then-not-is_blank-clause-none : goal.returns-then-not-is_blank-clause-none
returns-then-not-is_blank-clause-none c =
    let more = not_blank (words_of c.in_ok-results.rest.now) (sym c.is_blank.ensures ∙ c.if-not-is_blank.true)
    in
    more_after_results (words_of c.args.line.now) (words_of c.in_ok-params.rest.now)
    (words_of c.in-Some.rest.now) (words_of c.in_ok-results.rest.now) c.in_ok-params.params.items
    c.in_ok-results.results.items
    c.in_ok-params.ensures.read c.in_ok-params.ensures.stops c.in-Some.ensures.found
    c.in_ok-results.ensures.read c.in_ok-results.ensures.stops more
