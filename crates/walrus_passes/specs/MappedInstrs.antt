-- Functions whose instructions are changed one by one.
-- WebAssembly core specification, "Functions" and "Expressions". That instructions are changed is of
-- this crate's own.
use Rattle.std.specs.Prelude.{◌≡◌, ℕ}
use Rattle.std.specs.List.{AllZip}
use Rattle.std.specs.Borrow.{MutBor}
use Rattle.ir_instr.specs.Sequence.{Sequence}
use Rattle.ir_instr.specs.declared.instr.Instr.{Instr}
use Rattle.walrus_functions.specs.FunctionWithArgs.{FunctionWithArgs}

-- an instruction with its location became one that is so related to it, at the same location
abbrev pub IsMappedItem : (Instr → Instr → Type 0) → Instr × ℕ → Instr × ℕ → Type 0
IsMappedItem maps old new = maps old.0 new.0 × (new.1 ≡ old.1)

-- each instruction of the sequence became one that is so related to it. Their number and order, and
-- the sequence's id, type and end, are as they were
pub record IsMappedSequence (maps : Instr → Instr → Type 0) (old new : Sequence) : Type 0 where
  pub instrs : AllZip (IsMappedItem maps) old.instrs new.instrs
  pub same : new ≡ record old { instrs = new.instrs }

-- each instruction of each sequence became one that is so related to it, and nothing else of the
-- function changed
pub record IsMapped (maps : Instr → Instr → Type 0) (old new : FunctionWithArgs) : Type 0 where
  pub seqs : AllZip (IsMappedSequence maps) old.body.seqs new.body.seqs
  pub same : new ≡ record old { body = record (old.body) { seqs = new.body.seqs } }

-- a call of a closure on an instruction: the instruction before, and as the closure leaves it
abbrev pub Post : Type 1
Post = MutBor Instr → Unit {0} → MutBor Instr → Type 0

-- the closure, called on the old instruction, may leave the new one
pub record Leaves (post : Post) (old new : Instr) : Type 0 where
  pub given : MutBor Instr
  pub left : MutBor Instr
  pub met : post given tt left
  pub before : given.now ≡ old
  pub after : left.now ≡ new
