use Rattle.std.proofs.Common.{rules}
use Rattle.walrus_functions.proofs.function_builder.instr_seq_builder.InstrSeqBuilder.i32_const.Goals as goal

pub returns : goal.returns
returns c = search rules
