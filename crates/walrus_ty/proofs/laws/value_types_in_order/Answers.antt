use Rattle.walrus_ty.proofs.laws.value_types_in_order.Goals as goal
use Rattle.walrus_ty.proofs.Orders.Values.{val_is, field_is}

pub returns-clause-vals : goal.returns-clause-vals
returns-clause-vals c = val_is

pub returns-clause-fields : goal.returns-clause-fields
returns-clause-fields c = field_is

pub returns-clause-section_vals : goal.returns-clause-section_vals
returns-clause-section_vals c = val_is

pub returns-clause-section_fields : goal.returns-clause-section_fields
returns-clause-section_fields c = field_is
