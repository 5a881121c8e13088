use Rattle.std.proofs.Common.{rules}
use Rattle.walrus_functions.proofs.function_builder.instr_seq_builder.InstrSeqBuilder.loop_.Goals as goal

pub returns-clause-ok : goal.returns-clause-ok
returns-clause-ok c = search rules
