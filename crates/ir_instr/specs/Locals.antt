-- What contracts see of the locals of functions.
use Rattle.std.specs.Prelude.{ℕ, suc, List, [], ◌∷◌, Option, None}
use Rattle.std.specs.declared.string.String.{String}
use Rattle.std.specs.declared.alloc.Global.{Global}
use Rattle.walrus_ty.specs.declared.ty.value.Val.{Val}

pub record LocalVariable : Type 0 where
  pub id : ℕ
  pub ty : Val ℕ
  pub name : Option (String Global)

-- a local without a name
abbrev pub unnamed_local : ℕ → Val ℕ → LocalVariable
unnamed_local id ty = record { id = id; ty = ty; name = None }

-- locals of these types without names, whose ids are numbered from n
abbrev pub unnamed_locals : ℕ → List (Val ℕ) → List LocalVariable
unnamed_locals n [] = []
unnamed_locals n (ty ∷ types) = unnamed_local n ty ∷ unnamed_locals (suc n) types
