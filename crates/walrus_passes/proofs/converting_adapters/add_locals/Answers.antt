use Rattle.std.proofs.Common.{◌∙◌, length}
use Rattle.walrus_passes.proofs.Calling.{new_ids}
use Rattle.walrus_passes.proofs.NewLocals.{both-added, result-ids}
use Rattle.walrus_passes.proofs.converting_adapters.add_locals.Goals as goal

pub returns-clause-params : goal.returns-clause-params
returns-clause-params c = c.in_ok-args.ensures.ids ∙ new_ids (length c.args.locals.now) c.args.params.now

pub returns-clause-results : goal.returns-clause-results
returns-clause-results c =
    result-ids c.args.locals.now c.add_all.new.self c.args.params.now c.args.results.now
    c.in_ok-results.results.items c.in_ok-args.ensures.ok c.in_ok-results.ensures.ids

pub returns-clause-ok : goal.returns-clause-ok
returns-clause-ok c =
    both-added c.args.locals.now c.add_all.new.self c.add_all-2.new.self c.args.params.now
    c.args.results.now c.in_ok-args.ensures.ok c.in_ok-results.ensures.ok
