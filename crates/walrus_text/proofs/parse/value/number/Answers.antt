use Rattle.walrus_text.proofs.Parsing.Indices.{sign_or_leading_zero_none, number_found, number_none}
use Rattle.walrus_text.proofs.parse.value.number.Goals as goal

pub returns-then-has_sign_or_leading_zero-clause-none :
    goal.returns-then-has_sign_or_leading_zero-clause-none
returns-then-has_sign_or_leading_zero-clause-none c = sign_or_leading_zero_none c.args.text.now cc

pub returns-clause-found : goal.returns-clause-found
returns-clause-found c = rw c.ok.ensures.value
    (number_found c.args.text.now c.parse.result c.parse.ensures.value.0 cc)

pub returns-clause-none : goal.returns-clause-none
returns-clause-none c = rw c.ok.ensures.value
    (number_none c.args.text.now c.parse.result c.parse.ensures.value.0)
