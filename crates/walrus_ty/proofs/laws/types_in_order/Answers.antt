use Rattle.walrus_ty.proofs.laws.types_in_order.Goals as goal
use Rattle.walrus_ty.proofs.Orders.Types.{type_is, type_equal}

pub returns-clause-order : goal.returns-clause-order
returns-clause-order c = type_is

pub returns-clause-equal : goal.returns-clause-equal
returns-clause-equal c = type_equal
