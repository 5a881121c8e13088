use Rattle.walrus_functions.proofs.function_builder.instr_seq_builder.InstrSeqBuilder.f64_const.Goals as goal

pub returns : goal.returns
returns c = c.const_.ensures
