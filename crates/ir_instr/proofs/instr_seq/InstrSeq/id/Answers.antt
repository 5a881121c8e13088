use Rattle.std.proofs.Common.{rules}
use Rattle.ir_instr.proofs.instr_seq.InstrSeq.id.Goals as goal

pub returns : goal.returns
returns c = search rules
