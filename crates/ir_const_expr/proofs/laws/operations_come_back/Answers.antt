use Rattle.ir_const_expr.proofs.ConstExprLemmas.{both_ways}
use Rattle.ir_const_expr.proofs.laws.operations_come_back.Goals as goal

pub returns-clause-both_ways : goal.returns-clause-both_ways
returns-clause-both_ways c = both_ways
