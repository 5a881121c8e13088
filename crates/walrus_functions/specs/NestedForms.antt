-- Adding an instruction whose sequences are made by closures.
use Rattle.std.specs.Prelude.{◌≡◌, ℕ, ◌⊎◌, ◌<◌, ◌≤◌, List, [], ◌∷◌, length, Result, Ok, Err}
use Rattle.std.specs.Borrow.{MutBor}
use Rattle.ir_instr.specs.declared.instr_seq_type.InstrSeqType.{InstrSeqType}
use Rattle.ir_instr.specs.declared.instr.Instr.{Instr}
use Rattle.walrus_functions.specs.declared.function_builder.instr_seq_builder.InstrSeqBuilder.{InstrSeqBuilder}
use Rattle.walrus_functions.specs.declared.error.BuildError.{BuildError}
use Rattle.walrus_functions.specs.declared.error.BuildError.TheVariants.{NoParent, Position, Memory}
use Rattle.walrus_functions.specs.Body.{Body, Knows, instrs_of, next_seq, with_new, with_instr, with_instr_at}
use Rattle.walrus_functions.specs.Building.{seq_id, function_of, loan_of}

-- what a closure asks of the builder that it is called on
abbrev pub Pre : Type 1
Pre = MutBor InstrSeqBuilder → Type 0

-- a builder before a call of a closure on it, what the closure returns, and the builder after the
-- call
abbrev pub Post : Type 1
Post = MutBor InstrSeqBuilder → Result (Unit {0}) BuildError → MutBor InstrSeqBuilder → Type 0

-- the closure may be called on a builder of a new sequence of this type, which was added to f
abbrev pub TakesNew : Pre → Body → InstrSeqType → Type 0
TakesNew pre f ty =
    (b : MutBor InstrSeqBuilder)
    → seq_id b.now ≡ next_seq f → function_of b.now ≡ with_new f ty → pre b

-- after a call of the closure on such a builder, the builder writes through the same `&mut`: the
-- closure put no other builder in its place
abbrev pub KeepsFunction : Post → Body → InstrSeqType → Type 0
KeepsFunction post f ty =
    (b : MutBor InstrSeqBuilder) (r : Result (Unit {0}) BuildError) (c : MutBor InstrSeqBuilder)
    → seq_id b.now ≡ next_seq f → function_of b.now ≡ with_new f ty → post b r c
    → loan_of c.now ≡ loan_of b.now

-- a new sequence of this type was added to old, and the closure, called on a builder of it, may
-- return r and leave new
pub record Fills (post : Post) (ty : InstrSeqType) (old : Body)
    (r : Result (Unit {0}) BuildError) (new : Body) : Type 0 where
  pub given : MutBor InstrSeqBuilder
  pub left : MutBor InstrSeqBuilder
  pub met : post given r left
  pub id : seq_id given.now ≡ next_seq old
  pub before : function_of given.now ≡ with_new old ty
  pub after : function_of left.now ≡ new

-- memory for the sequence was refused, and nothing changed; or the closure returned this error
abbrev pub FailsToFill : Post → InstrSeqType → Body → BuildError → Body → Type 0
FailsToFill post ty old e new = ((e ≡ Memory) × (new ≡ old)) ⊎ Fills post ty old (Err e) new

-- the place of an instruction in its parent: at the end, or behind so many others
pub data Place : Type 0 where
  at_end : (parent : ℕ) → Place
  behind : (parent position : ℕ) → Place

-- the parent is known and has the place, and the instruction was put there
abbrev pub Attaches : Body → Place → Instr → Body → Type 0
Attaches old (at_end parent) i new = Knows old parent × (new ≡ with_instr old parent i)
Attaches old (behind parent position) i new =
    Knows old parent × (position ≤ length (instrs_of old parent))
    × (new ≡ with_instr_at old parent position i)

-- the parent is not known, or it has fewer instructions, or memory was refused
abbrev pub FailsToAttach : Body → Place → BuildError → Type 0
FailsToAttach f (at_end parent) e =
    ((e ≡ NoParent) × ¬ Knows f parent) ⊎ ((e ≡ Memory) × Knows f parent)
FailsToAttach f (behind parent position) e =
    ((e ≡ NoParent) × ¬ Knows f parent)
    ⊎ (((e ≡ Position) × Knows f parent × (length (instrs_of f parent) < position))
    ⊎ ((e ≡ Memory) × Knows f parent × (position ≤ length (instrs_of f parent))))

-- The forms: each closure fills a new sequence of this type, one after the other, and then the parent,
-- as it is by then, gains at the place the instruction that `make` gives for the ids of the
-- sequences. After a refusal what was made stays, and the parent gains nothing.

-- an instruction, given the id of a sequence for each closure
abbrev pub Makes : List Post → Type 0
Makes [] = Instr
Makes (post ∷ others) = ℕ → Makes others

abbrev pub Nests :
    (closures : List Post) → InstrSeqType → Place → Makes closures → Body → Body → Type 0
Nests [] ty place instr old new = Attaches old place instr new
Nests (post ∷ others) ty place make old new =
    (mid : Body) × Fills post ty old (Ok tt) mid
    × Nests others ty place (make (next_seq old)) mid new

abbrev pub FailsToNest : List Post → InstrSeqType → Place → Body → BuildError → Body → Type 0
FailsToNest [] ty place old e new = (new ≡ old) × FailsToAttach old place e
FailsToNest (post ∷ others) ty place old e new =
    FailsToFill post ty old e new
    ⊎ ((mid : Body) × Fills post ty old (Ok tt) mid × FailsToNest others ty place mid e new)

-- this holds of whatever function the closure of a new sequence may leave
abbrev pub AfterFilling : Post → InstrSeqType → Body → (Body → Type 0) → Type 0
AfterFilling post ty f Holds = (mid : Body) → Fills post ty f (Ok tt) mid → Holds mid
