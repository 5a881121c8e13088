-- What a function, its sequences and one sequence end as, where a private call returns a `&mut`
-- into them.
use Rattle.std.specs.Prelude.{ℕ, List, slice_set}
use Rattle.std.specs.Borrow.{Lends, Fml, MutBor}
use Rattle.ir_instr.specs.contracts.instr_seq.InstrSeq.{the_row as seq_row}
use Rattle.ir_instr.specs.Sequence.{Sequence}
use Rattle.walrus_functions.specs.contracts.function_builder.FunctionBuilder.{the_row as fn_row}
use Rattle.walrus_functions.specs.contracts.function_builder.sequences.Sequences.{the_row as seqs_row}
use Rattle.walrus_functions.specs.Body.{Body, with_sequence}

-- once the borrow of the sequence ends, the id has the last one written through it
abbrev pub LendsAt : MutBor (List Sequence) → ℕ → MutBor Sequence → Fml
LendsAt sequences id sequence =
    Lends seqs_row seq_row sequences sequence (slice_set sequences.now id)

-- once the borrow of a sequence of a function's body ends, the id has the last one written through it
abbrev pub LendsSeq : MutBor Body → ℕ → MutBor Sequence → Fml
LendsSeq body id sequence = Lends fn_row seq_row body sequence (with_sequence body.now id)
