-- What a walk that is under way keeps. No public clause cites this module.
use Rattle.std.specs.Prelude.{◌≡◌, ◌+◌, ℕ, zero, suc, List, [], ◌∷◌, length}
use Rattle.std.specs.List.{AllByRecursion}
use Rattle.walrus_ir.specs.Calls.{StepRelation}
use Rattle.walrus_functions.specs.Body.{Body, Knows}
use Rattle.walrus_traversals_mut.specs.Premises.{Keeps}
use Rattle.walrus_traversals_mut.specs.Walks.{last_first_of}

-- the steps of a visitor, each of which keeps the nesting
abbrev pub keeping : {V : Type 0} → StepRelation V → StepRelation V
keeping step hook v x w y = step hook v x w y × Keeps hook x y

-- the same ids, with the same children in the same order
pub record SameNesting (old new : Body) : Type 0 where
  pub count : length new.seqs ≡ length old.seqs
  pub children : (id : ℕ) → last_first_of new id ≡ last_first_of old id

-- the id is known, and so is all below it, to no more than n levels
unfoldable pub Within : Body → ℕ → ℕ → Type 0
Within body zero id = ⊥
Within body (suc n) id = Knows body id × AllByRecursion (Within body n) (last_first_of body id)

-- how many sequences are visited for these, where each is visited so often
abbrev pub sum_of : (ℕ → ℕ) → List ℕ → ℕ
sum_of visits [] = 0
sum_of visits (id ∷ rest) = visits id + sum_of visits rest

-- how many sequences are visited for this one, to this depth
unfoldable pub visits : Body → ℕ → ℕ → ℕ
visits body zero id = 0
visits body (suc n) id = suc (sum_of (visits body n) (last_first_of body id))

-- more levels than a nested body has
abbrev pub depth : Body → ℕ
depth body = suc (length body.seqs)
