-- The changing walk: a whole sequence, then its children as they then stand. A partial walk is, for
-- some k, the one that is cut after k hook calls (`CutWalk` in `Counting`).
use Rattle.std.specs.Prelude.{◌≡◌, ℕ, List, [], ◌∷◌, reverse, flat_map}
use Rattle.walrus_ir.specs.Calls.{Extent, Full, Partial, StepRelation, Visits}
use Rattle.walrus_ir.specs.Fields.{sequence_calls}
use Rattle.ir_instr.specs.Sequence.{Sequence}
use Rattle.walrus_functions.specs.Body.{Body, sequence, with_sequence}
use Rattle.walrus_functions.specs.Nesting.{children}

-- the children in the order in which a changing walk enters them: those of the last instruction
-- first, within one instruction in written order
abbrev pub last_first : Sequence → List ℕ
last_first seq = flat_map (λ item. children item.0) (reverse seq.instrs)

abbrev pub last_first_of : Body → ℕ → List ℕ
last_first_of f id = last_first (sequence f id)

module _ {V : Type 0} where
  -- the sequence of this id is visited, and nothing else of the body changes
  abbrev pub VisitsBlock : StepRelation V → V × Body → ℕ → Extent → V × Body → Type 0
  VisitsBlock step s id extent t =
      (new : Sequence) × Visits step s.0 (sequence_calls (sequence s.1 id)) extent t.0 new ×
      (t.1 ≡ with_sequence s.1 id new)

module _ {V : Type 0} (step : StepRelation V) where
  mutual
    -- from visitor and body, over the sequence of this id and all below it, to visitor and body
    pub data Walks : V × Body → ℕ → Extent → V × Body → Type 0 where
      -- the sequence is visited whole, then its children as they then stand
      goes_on : (s m t : V × Body) (id : ℕ) (extent : Extent) → VisitsBlock step s id Full m →
          WalksAll m (last_first_of m.1 id) extent t → Walks s id extent t
      -- the walk stops in the sequence
      stops : (s t : V × Body) (id : ℕ) → VisitsBlock step s id Partial t → Walks s id Partial t

    -- walks over these ids in turn, each as it then stands
    pub data WalksAll : V × Body → List ℕ → Extent → V × Body → Type 0 where
      none : (s : V × Body) (extent : Extent) → WalksAll s [] extent s
      next : (s m t : V × Body) (id : ℕ) (rest : List ℕ) (extent : Extent) →
          Walks s id Full m → WalksAll m rest extent t → WalksAll s (id ∷ rest) extent t
      -- the walk stops in the first
      stops_in : (s t : V × Body) (id : ℕ) (rest : List ℕ) →
          Walks s id Partial t → WalksAll s (id ∷ rest) Partial t
