-- The sequences of an instruction: which are children, and which are visited.
use Rattle.std.specs.Prelude.{ℕ, List, [], ◌∷◌, flat_map}
use Rattle.ir_instr.specs.declared.instr.Instr.{Instr}
use Rattle.ir_instr.specs.declared.instr.Instr.TheVariants as instr
use Rattle.walrus_functions.specs.Nesting.{handlers}

-- the handlers of a `try`
abbrev pub handlers_of : Instr → List ℕ
handlers_of (instr.Try x) = flat_map handlers x.catches
handlers_of _ = []

-- the label of a branch on a reference
abbrev pub labels_visited : Instr → List ℕ
labels_visited (instr.BrOnNull x) = x.block ∷ []
labels_visited (instr.BrOnNonNull x) = x.block ∷ []
labels_visited (instr.BrOnCast x) = x.block ∷ []
labels_visited (instr.BrOnCastFail x) = x.block ∷ []
labels_visited _ = []
