-- What is pushed onto a stack, so that it comes off in order.
use Rattle.std.specs.Prelude.{◌≡◌, List, [], ◌∷◌, ◌++◌}

-- for each item of the list something that it gives was pushed, for the first item last
abbrev pub Pushes : {X T : Type 0} → (X → T → Type 0) → List X → List T → List T → Type 0
Pushes gives [] old new = new ≡ old
Pushes {T = T} gives (x ∷ xs) old new =
    (between : List T) × (top : T) × Pushes gives xs old between × gives x top
    × (new ≡ between ++ top ∷ [])

-- memory was refused for an item of the list: just those behind it were pushed
pub record PushesBehind {X T : Type 0} (gives : X → T → Type 0) (xs : List X) (old new : List T) : Type 0 where
  pub before : List X
  pub refused : X
  pub behind : List X
  pub list_is : xs ≡ before ++ refused ∷ behind
  pub pushed : Pushes gives behind old new
