-- What contracts see of a function under construction.
use Rattle.std.specs.Prelude.{ℕ, ◌<◌, List, [], ◌∷◌, ◌++◌, take, drop, length, Option, None, slice_index_or, slice_set}
use Rattle.ir_instr.specs.Locations.{no_location}
use Rattle.ir_instr.specs.Sequence.{Sequence, empty_sequence}
use Rattle.ir_instr.specs.declared.instr_seq_type.InstrSeqType.{InstrSeqType}
use Rattle.ir_instr.specs.declared.instr_seq_type.InstrSeqType.TheVariants.{Simple}
use Rattle.ir_instr.specs.declared.instr.Instr.{Instr}

-- the sequences by id, the id of the one that is run first, the id of the function's type, and the
-- bytes of its name
pub record Body : Type 0 where
  pub seqs : List Sequence
  pub entry : Option ℕ
  pub ty : ℕ
  pub name : Option (List ℕ)

-- there is a sequence with this id
abbrev pub Knows : Body → ℕ → Type 0
Knows f id = id < length f.seqs

-- the sequence of a known id; no clause asks for that of an unknown one
abbrev pub sequence : Body → ℕ → Sequence
sequence f id = slice_index_or f.seqs id (empty_sequence id (Simple None))

-- the instructions of a known sequence, each with its location
abbrev pub instrs_of : Body → ℕ → List (Instr × ℕ)
instrs_of f id = (sequence f id).instrs

-- without sequences, entry and name
abbrev pub bare : ℕ → Body
bare ty = record { seqs = []; entry = None; ty = ty; name = None }

-- the id of the next new sequence
abbrev pub next_seq : Body → ℕ
next_seq f = length f.seqs

-- f with a new sequence of this type, without instructions
abbrev pub with_new : Body → InstrSeqType → Body
with_new f ty = record f { seqs = f.seqs ++ empty_sequence (next_seq f) ty ∷ [] }

-- f with this sequence in place of the one that had the id
abbrev pub with_sequence : Body → ℕ → Sequence → Body
with_sequence f id s = record f { seqs = slice_set f.seqs id s }

-- f with these instructions in the sequence of the id
abbrev pub with_instrs : Body → ℕ → List (Instr × ℕ) → Body
with_instrs f id instrs = with_sequence f id (record (sequence f id) { instrs = instrs })

-- f with this instruction at the end of the sequence of the id, at the default location
abbrev pub with_instr : Body → ℕ → Instr → Body
with_instr f id i = with_instrs f id (instrs_of f id ++ (i, no_location) ∷ [])

-- f with this instruction put into the sequence of the id, at the default location, behind so many
-- others
abbrev pub with_instr_at : Body → ℕ → ℕ → Instr → Body
with_instr_at f id position i =
    with_instrs f id (take position (instrs_of f id)
    ++ (i, no_location) ∷ drop position (instrs_of f id))
