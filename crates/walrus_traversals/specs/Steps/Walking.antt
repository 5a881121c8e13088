-- What the in-order walk keeps on its stack, and what comes of it.
use Rattle.std.specs.Prelude.{◌≡◌, ℕ, zero, suc, ◌+◌, List, [], ◌∷◌, ◌++◌, Bool, true, false, map, reverse, slice_get, Option, Some, None}
use Rattle.std.specs.List.{FoldsTo}
use Rattle.ir_instr.specs.declared.instr.Instr.{Instr}
use Rattle.walrus_ir.specs.Calls.{Event, at, reported}
use Rattle.walrus_ir.specs.Fields.{type_fields}
use Rattle.walrus_ir.specs.Hooks.{start_instr_seq, end_instr_seq}
use Rattle.ir_instr.specs.Sequence.{Sequence}
use Rattle.walrus_functions.specs.Body.{Body, sequence}
use Rattle.walrus_functions.specs.Nesting.{children}
use Rattle.walrus_traversals.specs.Events.{own_events, AfterFirst}
use Rattle.walrus_traversals.specs.declared.traversals.stack.Work.{Work}
use Rattle.walrus_traversals.specs.declared.traversals.stack.Work.TheVariants.{Enter, Resume}

-- what resuming a sequence reports: the instruction at the place, if there is one, else the end
abbrev pub at_place : Sequence → Option (Instr × ℕ) → List Event
at_place s (Some x) = own_events x
at_place s None = at end_instr_seq s ∷ []

-- what a piece of work reports before other work is done
abbrev pub reports : Body → Work → List Event
reports f (Enter q) = at start_instr_seq (sequence f q) ∷ reported (type_fields (sequence f q).ty)
reports f (Resume q k) = at_place (sequence f q) (slice_get (sequence f q).instrs k)

-- what is left of a sequence after the instruction at a place: first what is inside it, then the
-- rest; the last is done first
abbrev pub after_place : ℕ → ℕ → Option (Instr × ℕ) → List Work
after_place q k (Some x) = Resume q (k + 1) ∷ reverse (map Enter (children x.0))
after_place q k None = []

-- the work that a piece of work leaves
abbrev pub leaves : Body → Work → List Work
leaves f (Enter q) = Resume q 0 ∷ []
leaves f (Resume q k) = after_place q k (slice_get (sequence f q).instrs k)

-- the sequence of a piece of work
abbrev pub seq_of : Work → ℕ
seq_of (Enter q) = q
seq_of (Resume q k) = q

abbrev pub has_items : List ℕ → Bool
has_items [] = false
has_items (c ∷ cs) = true

module _ {V : Type 0} (step : V → Event → V → Type 0) (f : Body) where
  -- n pieces of work, each time the last on the stack, lead from one visitor and stack to another
  abbrev pub Does : ℕ → V → List Work → V → List Work → Type 0
  Does zero v all w new = (w ≡ v) × (new ≡ all)
  Does (suc n) v all w new =
      (u : V) × (ws : List Work) × (p : Work) × Does n v all u (ws ++ p ∷ [])
      × FoldsTo step u (reports f p) w × (new ≡ ws ++ leaves f p)

  -- some pieces of work, one at least
  abbrev pub Goes : V → List Work → V → List Work → Type 0
  Goes v all w new = (n : ℕ) × Does (suc n) v all w new

  -- some pieces of work, and a first part of what the next one reports
  abbrev pub Stops : V → List Work → V → Type 0
  Stops v all w =
      (n : ℕ) × (u : V) × (ws : List Work) × (p : Work) × Does n v all u (ws ++ p ∷ [])
      × AfterFirst step u (reports f p) w
