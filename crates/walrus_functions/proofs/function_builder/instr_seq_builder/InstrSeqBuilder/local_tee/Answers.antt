use Rattle.walrus_functions.proofs.function_builder.instr_seq_builder.InstrSeqBuilder.local_tee.Goals as goal

pub returns : goal.returns
returns c = c.push.ensures
