use Rattle.std.proofs.Common.{rules}
use Rattle.ir_instr.proofs.instr.Instr.following_instructions_are_unreachable.Goals as goal

pub returns-in_default : goal.returns-in_default
returns-in_default c = search rules

pub returns-in-Unreachable-3 : goal.returns-in-Unreachable-3
returns-in-Unreachable-3 c = search rules
