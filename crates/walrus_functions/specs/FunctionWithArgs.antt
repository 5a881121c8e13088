-- What contracts see of a function that has a body.
use Rattle.std.specs.Prelude.{ℕ, List}
use Rattle.walrus_functions.specs.Body.{Body}

-- the function, and the ids of the locals that are its parameters
pub record FunctionWithArgs : Type 0 where
  pub body : Body
  pub args : List ℕ
