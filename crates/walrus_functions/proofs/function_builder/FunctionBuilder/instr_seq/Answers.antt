use Rattle.std.proofs.Common.{rules}
use Rattle.walrus_functions.proofs.function_builder.FunctionBuilder.instr_seq.Goals as goal

pub returns-clause-id : goal.returns-clause-id
returns-clause-id c = search rules
