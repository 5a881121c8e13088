-- Which sequences stand in which, and which bodies are nested.
-- WebAssembly core specification, "Structured Control Flow": an instruction such as `block` holds
-- sequences of instructions. Here it holds their ids, so a body may be no tree; it is nested where
-- unfolding it ends.
use Rattle.std.specs.Prelude.{ℕ, ◌<◌, List, [], ◌∷◌, Contains, flat_map}
use Rattle.ir_instr.specs.declared.instr.Instr.{Instr}
use Rattle.ir_instr.specs.declared.instr.Instr.TheVariants as instr
use Rattle.ir_instr.specs.declared.exceptions.LegacyCatch.{LegacyCatch}
use Rattle.ir_instr.specs.declared.exceptions.LegacyCatch.TheVariants.{Catch, CatchAll, Delegate}
use Rattle.walrus_functions.specs.Body.{Body, Knows, sequence}

-- the sequence that a clause of `try` runs
abbrev pub handlers : LegacyCatch → List ℕ
handlers (Catch _ handler) = handler ∷ []
handlers (CatchAll handler) = handler ∷ []
handlers (Delegate _) = []

-- the children of an instruction: the sequences that stand in it, in order. The labels of
-- `try_table` are none of them
abbrev pub children : Instr → List ℕ
children (instr.Block x) = x.seq ∷ []
children (instr.Loop x) = x.seq ∷ []
children (instr.TryTable x) = x.seq ∷ []
children (instr.IfElse x) = x.consequent ∷ x.alternative ∷ []
children (instr.Try x) = x.seq ∷ flat_map handlers x.catches
children _ = []

-- the children of a sequence: those of its instructions in order. An unknown sequence has none
abbrev pub children_of : Body → ℕ → List ℕ
children_of f id = flat_map (λ x. children x.0) (sequence f id).instrs

-- the second is a child of the first
abbrev pub IsChild : Body → ℕ → ℕ → Type 0
IsChild f parent child = Contains (children_of f parent) child

-- what is reached from `start` through children
pub data IsReachable (f : Body) (start : ℕ) : ℕ → Type 0 where
  at_start : IsReachable f start start
  below : (parent child : ℕ) → IsReachable f start parent → IsChild f parent child
      → IsReachable f start child

-- a rank under which the body is nested: every sequence that is reached is known, and its children
-- have lesser ranks
pub record IsRank (f : Body) (start : ℕ) (rank : ℕ → ℕ) : Type 0 where
  pub known : (id : ℕ) → IsReachable f start id → Knows f id
  pub falls : (parent child : ℕ) → IsReachable f start parent → IsChild f parent child
      → rank child < rank parent

-- the body is nested from `start`
abbrev pub IsNested : Body → ℕ → Type 0
IsNested f start = (rank : ℕ → ℕ) × IsRank f start rank
