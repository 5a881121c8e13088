-- Conversions: closures that add instructions to a body, one call for each of some locals.
use Rattle.std.specs.Prelude.{◌≡◌, ℕ, ◌<◌, List, ◌++◌, take, OnOk, Result, Ok, Err, Some, slice_get}
use Rattle.std.specs.List.{FoldsTo, enumerate_from, flat_map}
use Rattle.std.specs.Borrow.{MutBor}
use Rattle.ir_instr.specs.declared.instr.Instr.{Instr}
use Rattle.walrus_functions.specs.declared.function_builder.instr_seq_builder.InstrSeqBuilder.{InstrSeqBuilder}
use Rattle.walrus_functions.specs.declared.error.BuildError.{BuildError}
use Rattle.walrus_functions.specs.Body.{Body, with_instrs, instrs_of}
use Rattle.walrus_functions.specs.Building.{seq_id, function_of, IsKnown, Stays}

-- A conversion is called with a builder of a sequence, the place of a local among the given ones,
-- counted from 0, and the id of the local.

-- what a conversion in some state asks of a call
abbrev pub Pre : Type 0 → Type 1
Pre F = F → MutBor InstrSeqBuilder → ℕ → ℕ → Type 0

-- a call of a conversion in some state, what it returns, and the builder and the state after it
abbrev pub Step : Type 0 → Type 1
Step F =
    F → MutBor InstrSeqBuilder → ℕ → ℕ → Result (Unit {0}) BuildError → MutBor InstrSeqBuilder → F
    → Type 0

-- the states that a conversion reaches from `start`, by calls for places below `count` that return
-- no error
pub data Reaches {F : Type 0} (step : Step F) (count : ℕ) (start : F) : F → Type 0 where
  at_start : Reaches step count start start
  after : (before after : F) (b c : MutBor InstrSeqBuilder) (i local : ℕ)
      → Reaches step count start before → IsKnown b.now → i < count
      → step before b i local (Ok tt) c after → Reaches step count start after

-- in each such state the conversion may be called for such a place, on a builder whose sequence is
-- known
abbrev pub TakesEach : {F : Type 0} → Pre F → Step F → ℕ → F → Type 0
TakesEach {F} pre step count start =
    (state : F) (b : MutBor InstrSeqBuilder) (i local : ℕ)
    → Reaches step count start state → IsKnown b.now → i < count → pre state b i local

-- after such a call the builder is the same one: no other was put in its place. Unless an error was
-- returned, its sequence is still known
abbrev pub KeepsBuilder : {F : Type 0} → Step F → ℕ → F → Type 0
KeepsBuilder {F} step count start =
    (before after : F) (b c : MutBor InstrSeqBuilder) (i local : ℕ)
    (r : Result (Unit {0}) BuildError)
    → Reaches step count start before → IsKnown b.now → i < count → step before b i local r c after
    → Stays b.now c.now × OnOk r (IsKnown c.now)

-- f with these instructions after the others in the sequence of the id
abbrev pub with_more : Body → ℕ → List (Instr × ℕ) → Body
with_more f id instrs = with_instrs f id (instrs_of f id ++ instrs)

-- each such call that returns no error adds these instructions, which depend on the place and the
-- local, at the end of the sequence, and changes nothing else of the function
abbrev pub AddsEach : {F : Type 0} → Step F → ℕ → F → (ℕ → ℕ → List (Instr × ℕ)) → Type 0
AddsEach {F} step count start instrs =
    (before after : F) (b c : MutBor InstrSeqBuilder) (i local : ℕ)
    → Reaches step count start before → IsKnown b.now → i < count
    → step before b i local (Ok tt) c after
    → function_of c.now ≡ with_more (function_of b.now) (seq_id b.now) (instrs i local)

-- the instructions for all these locals in turn
abbrev pub for_each : (ℕ → ℕ → List (Instr × ℕ)) → List ℕ → List (Instr × ℕ)
for_each instrs locals = flat_map (λ x. instrs x.0 x.1) (enumerate_from 0 locals)

-- the conversion in the old state, called for this place and local on a builder of the sequence of
-- the old function, may return r, and leave the new state and function
pub record Converts {F : Type 0} (step : Step F) (seq : ℕ) (r : Result (Unit {0}) BuildError)
    (old : F × Body) (local : ℕ × ℕ) (new : F × Body) : Type 0 where
  pub given : MutBor InstrSeqBuilder
  pub left : MutBor InstrSeqBuilder
  pub met : step old.0 given local.0 local.1 r left new.0
  pub id : seq_id given.now ≡ seq
  pub before : function_of given.now ≡ old.1
  pub after : function_of left.now ≡ new.1

-- the conversion was called for each of these locals in order
abbrev pub ConvertsEach : {F : Type 0} → Step F → ℕ → List ℕ → F × Body → F × Body → Type 0
ConvertsEach step seq locals old new =
    FoldsTo (Converts step seq (Ok tt)) old (enumerate_from 0 locals) new

-- the conversion was called for the first locals in order, and for the next one it returned this
-- error
pub record FailsToConvert {F : Type 0} (step : Step F) (seq : ℕ) (locals : List ℕ)
    (old : F × Body) (e : BuildError) : Type 0 where
  pub count : ℕ
  pub before : F × Body
  pub converted : ConvertsEach step seq (take count locals) old before
  pub local : ℕ
  pub next : slice_get locals count ≡ Some local
  pub after : F × Body
  pub failed : Converts step seq (Err e) before (count, local) after
