-- What the hooks of a visitor keep, so that a walk that changes a nested body ends.
use Rattle.std.specs.Prelude.{◌≡◌, ⊤, ℕ, List, [], ◌∷◌, map}
use Rattle.ir_instr.specs.Sequence.{Sequence}
use Rattle.walrus_functions.specs.Nesting.{children}
use Rattle.walrus_ir.specs.Calls.{StepRelation}
use Rattle.walrus_ir.specs.Hooks.{Hook, Given, start_instr_seq, end_instr_seq, visit_instr, visit_instr_seq_id}

-- without the empty lists
abbrev pub nonempty : List (List ℕ) → List (List ℕ)
nonempty [] = []
nonempty ([] ∷ rest) = nonempty rest
nonempty ((c ∷ cs) ∷ rest) = (c ∷ cs) ∷ nonempty rest

-- the non-empty lists of children of the instructions of a sequence
abbrev pub child_lists : Sequence → List (List ℕ)
child_lists s = nonempty (map (λ x. children x.0) s.instrs)

-- the same id, and the same non-empty lists of children
abbrev pub KeepsChildren : Sequence → Sequence → Type 0
KeepsChildren old new = (new.id ≡ old.id) × (child_lists new ≡ child_lists old)

-- what a hook keeps of what it is given
abbrev pub Keeps : (hook : Hook) → Given hook → Given hook → Type 0
Keeps start_instr_seq old new = KeepsChildren old new
Keeps end_instr_seq old new = KeepsChildren old new
Keeps visit_instr old new = children new.0 ≡ children old.0
Keeps visit_instr_seq_id old new = new ≡ old
Keeps _ _ _ = ⊤

module _ {V : Type 0} where
  -- each step of the visitor keeps it
  abbrev pub KeepsNesting : StepRelation V → Type 0
  KeepsNesting step =
      (hook : Hook) (v : V) (x : Given hook) (w : V) (y : Given hook) → step hook v x w y
      → Keeps hook x y

  -- the visitor has a step at each hook, whatever the hook is given
  abbrev pub HasSteps : StepRelation V → Type 0
  HasSteps step =
      (hook : Hook) (v : V) (x : Given hook) → (w : V) × (y : Given hook) × step hook v x w y
