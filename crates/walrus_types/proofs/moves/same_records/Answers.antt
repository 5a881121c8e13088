use Rattle.walrus_ty.proofs.Equality.Records.{records_equal}
use Rattle.walrus_types.proofs.moves.same_records.Goals as goal

pub returns : goal.returns
returns c = records_equal c.args.first.now c.args.second.now c.eq.result c.eq.ensures
