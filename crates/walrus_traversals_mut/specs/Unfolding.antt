-- The unfolding of a body: which sequences a changing walk visits, in order.
use Rattle.std.specs.Prelude.{ℕ, List, [], ◌∷◌, ◌++◌, nat_eq}
use Rattle.std.specs.List.{IsDistinct}
use Rattle.walrus_functions.specs.Body.{Body}
use Rattle.walrus_traversals_mut.specs.Walks.{last_first_of}

module _ (f : Body) where
  mutual
    -- the sequence, then the unfoldings of its children
    pub data Unfolds : ℕ → List ℕ → Type 0 where
      then_below : (id : ℕ) (visits : List ℕ) → UnfoldsAll (last_first_of f id) visits
          → Unfolds id (id ∷ visits)

    -- the unfoldings of these one after another
    pub data UnfoldsAll : List ℕ → List ℕ → Type 0 where
      no_child : UnfoldsAll [] []
      then_rest : (id : ℕ) (rest visits others : List ℕ) → Unfolds id visits
          → UnfoldsAll rest others → UnfoldsAll (id ∷ rest) (visits ++ others)

-- no sequence is visited twice: none that is reached is named twice
abbrev pub IsTree : Body → ℕ → Type 0
IsTree f start = (visits : List ℕ) × Unfolds f start visits × IsDistinct nat_eq visits
