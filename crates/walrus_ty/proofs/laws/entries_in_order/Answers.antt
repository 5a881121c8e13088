use Rattle.walrus_ty.proofs.laws.entries_in_order.Goals as goal
use Rattle.walrus_ty.proofs.Orders.Records.{entry_is, entry_equal}

pub returns-clause-order : goal.returns-clause-order
returns-clause-order c = entry_is

pub returns-clause-equal : goal.returns-clause-equal
returns-clause-equal c = entry_equal
