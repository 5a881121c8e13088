-- What functions end as, where a `&mut` into them is returned.
use Rattle.std.specs.Prelude.{ℕ}
use Rattle.std.specs.Borrow.{Lends, Fml, MutBor}
use Rattle.ir_instr.specs.contracts.instr_seq.InstrSeq.{the_row as seq_row}
use Rattle.ir_instr.specs.Sequence.{Sequence}
use Rattle.walrus_functions.specs.contracts.function_builder.FunctionBuilder.{the_row as builder_row}
use Rattle.walrus_functions.specs.contracts.local_function.LocalFunction.{the_row as function_row}
use Rattle.walrus_functions.specs.contracts.local_functions.LocalFunctions.{the_row as functions_row}
use Rattle.walrus_functions.specs.Body.{Body, with_sequence}
use Rattle.walrus_functions.specs.Functions.{Functions, with_function}
use Rattle.walrus_functions.specs.FunctionWithArgs.{FunctionWithArgs}

-- once the borrow of the sequence ends, the id has the last one written through it
abbrev pub LendsBlock : MutBor FunctionWithArgs → ℕ → MutBor Sequence → Fml
LendsBlock function id sequence = Lends function_row seq_row function sequence
    (λ last. record (function.now) { body = with_sequence function.now.body id last })

-- once the borrow of the builder ends, the function has the last one written through it
abbrev pub LendsBuilder : MutBor FunctionWithArgs → MutBor Body → Fml
LendsBuilder function body = Lends function_row builder_row function body
    (λ last. record (function.now) { body = last })

-- once the borrow of the function ends, the id has the last one written through it
abbrev pub LendsFunction : MutBor Functions → ℕ → MutBor FunctionWithArgs → Fml
LendsFunction functions id function = Lends functions_row function_row functions function
    (with_function functions.now id)
