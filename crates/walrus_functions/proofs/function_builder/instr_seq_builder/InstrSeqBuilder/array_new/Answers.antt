use Rattle.walrus_functions.proofs.function_builder.instr_seq_builder.InstrSeqBuilder.array_new.Goals as goal

pub returns : goal.returns
returns c = c.push.ensures
