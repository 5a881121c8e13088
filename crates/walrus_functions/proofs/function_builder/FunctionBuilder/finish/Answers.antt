use Rattle.std.proofs.Common.{rules}
use Rattle.walrus_functions.proofs.function_builder.FunctionBuilder.finish.Goals as goal

pub returns-clause-back : goal.returns-clause-back
returns-clause-back c = search rules
