use Rattle.std.proofs.Common.{rules}
use Rattle.ir_instr.proofs.instr_seq_type.InstrSeqTypeFromValType.from.Goals as goal

pub returns : goal.returns
returns c = search rules
