use Rattle.std.proofs.Common.{rules}
use Rattle.ir_instr.proofs.instr_seq_type.InstrSeqType.existing.Goals as goal

pub returns-in-Some-clause-simple : goal.returns-in-Some-clause-simple
returns-in-Some-clause-simple c = search rules
