use Rattle.std.proofs.Common.{◌∙◌, sym}
use Rattle.walrus_normal_form.proofs.Ordering.SortKeys.{greater_by_key, less_by_key, tuples_are}
use Rattle.walrus_normal_form.proofs.sort_key.compare_keys.Goals as goal

pub returns-clause-order : goal.returns-clause-order
returns-clause-order c = c.cmp.ensures ∙ tuples_are c.args.key c.args.other

pub returns-clause-less : goal.returns-clause-less
returns-clause-less c = λ d e a b is.
    sym (less_by_key c.args.key c.args.other d e c.cmp.result a b c.cmp.ensures is)

pub returns-clause-greater : goal.returns-clause-greater
returns-clause-greater c = λ d e a b is.
    sym (greater_by_key c.args.key c.args.other d e c.cmp.result a b c.cmp.ensures is)
