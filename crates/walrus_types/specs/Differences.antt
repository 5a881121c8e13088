-- `DifferFirstAt`, the first place where two lists differ.
-- None of it is of the WebAssembly specification.
use Rattle.std.specs.Prelude.{◌≡◌, ℕ, List, take, slice_get}

-- The two have the same items before a place and not the same there: another one, or one list ends
-- there.
pub record DifferFirstAt {X : Type 0} (xs ys : List X) (place : ℕ) : Type 0 where
  pub before : take place xs ≡ take place ys
  pub there : ¬ (slice_get xs place ≡ slice_get ys place)
