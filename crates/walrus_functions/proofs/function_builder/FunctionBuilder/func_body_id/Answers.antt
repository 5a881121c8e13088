use Rattle.std.proofs.Common.{rules}
use Rattle.walrus_functions.proofs.function_builder.FunctionBuilder.func_body_id.Goals as goal

pub returns-clause-value : goal.returns-clause-value
returns-clause-value c = search rules

pub returns-clause-known : goal.returns-clause-known
returns-clause-known c = search rules
