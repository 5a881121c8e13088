use Rattle.ir_instr.proofs.LocalEquality.{locals_equal}
use Rattle.ir_instr.proofs.laws.equal_locals_are_the_same.Goals as goal

pub returns : goal.returns
returns c = locals_equal
