use Rattle.std.proofs.Common.{rules}
use Rattle.walrus_functions.proofs.function_builder.instr_seq_builder.InstrSeqBuilder.builder_mut.Goals as goal

pub returns : goal.returns
returns c = search rules
