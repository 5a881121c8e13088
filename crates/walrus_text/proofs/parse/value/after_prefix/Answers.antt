use Rattle.walrus_text.proofs.Parsing.Indices.{stripped_some, stripped_none}
use Rattle.walrus_text.proofs.parse.value.after_prefix.Goals as goal

pub returns-clause-found : goal.returns-clause-found
returns-clause-found c = stripped_some c.args.word.now c.args.prefix.now c.strip_prefix.result
    c.strip_prefix.ensures.cases

pub returns-clause-none : goal.returns-clause-none
returns-clause-none c = stripped_none c.args.word.now c.args.prefix.now c.strip_prefix.result
    c.strip_prefix.ensures.cases
