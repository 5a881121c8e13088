use Rattle.std.proofs.Common.{rules}
use Rattle.walrus_functions.proofs.function_builder.FunctionBuilder.func_body.Goals as goal

pub returns-clause-id : goal.returns-clause-id
returns-clause-id c = search rules
