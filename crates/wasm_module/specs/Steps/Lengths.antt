-- Lengths of what was taken from the front of bytes.
use Rattle.std.specs.Prelude.{◌≡◌, ℕ, List, ◌++◌, length}
use Rattle.std.specs.List.{concat}
use Rattle.wasm_binary.specs.Grammar.{AreItems}
use Rattle.wasm_module.specs.Lengths.{HasBodyLengths}
use Rattle.wasm_module.specs.Steps.Renaming.{Appends}

-- a function body and its size were taken, and the lengths were put at the end of others
pub record TakesBody (bytes rest old new : List ℕ) : Type 0 where
  pub text : List ℕ
  pub parts : bytes ≡ text ++ rest
  pub long : Appends (HasBodyLengths text) old new

-- this many bodies and their sizes were taken, and all their lengths put at the end of others
pub record TakesBodies (count : ℕ) (bytes rest old new : List ℕ) : Type 0 where
  pub text : List ℕ
  pub bodies : List (List ℕ)
  pub parts : bytes ≡ text ++ rest
  pub are : AreItems HasBodyLengths text bodies
  pub many : length bodies ≡ count
  pub long : new ≡ old ++ concat bodies
