-- What contracts see of a builder of a sequence, and what adding to the sequence does to the
-- function.
use Rattle.std.specs.Prelude.{◌≡◌, ◌≤◌, ℕ, OnOk, IfErr, Result}
use Rattle.std.specs.Borrow.{GName}
use Rattle.ir_instr.specs.declared.instr.Instr.{Instr}
use Rattle.walrus_functions.specs.declared.function_builder.instr_seq_builder.InstrSeqBuilder.{InstrSeqBuilder}
use Rattle.walrus_functions.specs.declared.error.BuildError.{BuildError}
use Rattle.walrus_functions.specs.declared.error.BuildError.TheVariants.{Memory}
use Rattle.walrus_functions.specs.Body.{Body, Knows, next_seq, with_instr, with_instr_at}

-- the id of the sequence that it builds
abbrev pub seq_id : InstrSeqBuilder → ℕ
seq_id b = b.id

-- the function that the sequence is of
abbrev pub function_of : InstrSeqBuilder → Body
function_of b = b.builder.now

-- which `&mut` to a function it writes through
abbrev pub loan_of : InstrSeqBuilder → GName
loan_of b = b.builder.ghost_name

-- the builder with this function in place of its own
abbrev pub with_function : InstrSeqBuilder → Body → InstrSeqBuilder
with_function b f = record b { builder = record (b.builder) { now = f } }

-- its sequence is known
abbrev pub IsKnown : InstrSeqBuilder → Type 0
IsKnown b = Knows (function_of b) (seq_id b)

-- each sequence that the old function knows is known in the new one: ids are places in the list of
-- sequences, and the list has not become shorter
abbrev pub StayKnown : Body → Body → Type 0
StayKnown old new = next_seq old ≤ next_seq new

module _ (old new : InstrSeqBuilder) where
  -- it builds the same sequence, and writes through the same `&mut`
  abbrev pub Stays : Type 0
  Stays = (seq_id new ≡ seq_id old) × (loan_of new ≡ loan_of old)

  -- the instruction was added at the end of the sequence, at the default location, and nothing else
  -- has changed
  abbrev pub Adds : Instr → Type 0
  Adds i = function_of new ≡ with_instr (function_of old) (seq_id old) i

  -- the instruction was put into the sequence, behind so many others, and nothing else has changed
  abbrev pub AddsAt : ℕ → Instr → Type 0
  AddsAt position i = function_of new ≡ with_instr_at (function_of old) (seq_id old) position i

  -- memory was refused, and the function is as it was
  abbrev pub AddsNothing : BuildError → Type 0
  AddsNothing e = (e ≡ Memory) × (function_of new ≡ function_of old)

  -- what a call leaves that adds the instruction where there is memory for it, and returns r
  pub record AddsOrNothing (r : Result (Unit {0}) BuildError) (i : Instr) : Type 0 where
    pub same : Stays
    pub known : StayKnown (function_of old) (function_of new)
    pub ok : OnOk r (Adds i)
    pub err : IfErr r AddsNothing
