use Rattle.std.proofs.Common.{◌≡◌, rules}
use Rattle.std.specs.Prelude.{codes}
use Rattle.walrus_text.specs.Words.{words_of}
use Rattle.walrus_text.proofs.Parsing.Entries.{after_open}
use Rattle.walrus_text.proofs.parse.entry.finality.Goals as goal

pub returns-clause-only : goal.returns-clause-only
returns-clause-only c =
    let named : c.args.word.now ≡ codes "open" = search rules in
    after_open c.args.word.now (words_of c.args.rest.now) _ named c.in_ok-word.ensures.found
