use Rattle.walrus_traversals.specs.AnyIds.{id_in}
use Rattle.walrus_traversals.proofs.PassingOn.{passed_on}
use Rattle.walrus_traversals.proofs.laws.only_ids_pass_on_the_ids.Goals as goal

pub returns : goal.returns
returns g c es h = passed_on id_in g.V.IdVisitor.step es c.args.old.now c.args.new.now h
