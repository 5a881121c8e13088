use Rattle.std.proofs.Common.{rules}
use Rattle.walrus_functions.proofs.function_builder.instr_seq_builder.InstrSeqBuilder.attach_at.Goals as goal

pub returns-then-position-instrs-clause-err : goal.returns-then-position-instrs-clause-err
returns-then-position-instrs-clause-err c = search rules
