-- What contracts see of a sequence of instructions.
use Rattle.std.specs.Prelude.{ℕ, List, []}
use Rattle.ir_instr.specs.declared.instr_seq_type.InstrSeqType.{InstrSeqType}
use Rattle.ir_instr.specs.declared.instr.Instr.{Instr}
use Rattle.ir_instr.specs.Locations.{no_location}

pub record Sequence : Type 0 where
  pub id : ℕ
  pub ty : InstrSeqType
  pub instrs : List (Instr × ℕ)
  pub end : ℕ

-- without instructions, its end at the default location
abbrev pub empty_sequence : ℕ → InstrSeqType → Sequence
empty_sequence id ty = record { id = id; ty = ty; instrs = []; end = no_location }
