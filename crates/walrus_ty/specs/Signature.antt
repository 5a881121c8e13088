-- What contracts see of a function type.
-- WebAssembly core specification, "Types": composite types, of which a function type has parameters
-- and results.
use Rattle.std.specs.Prelude.{ℕ, List}
use Rattle.walrus_ty.specs.declared.ty.value.Val.{Val}

pub record Signature : Type 0 where
  pub params : List (Val ℕ)
  pub results : List (Val ℕ)
