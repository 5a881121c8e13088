use Rattle.walrus_functions.proofs.function_builder.instr_seq_builder.InstrSeqBuilder.return_.Goals as goal

pub returns : goal.returns
returns c = c.push.ensures
