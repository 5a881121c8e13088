-- The function types that a table adds.
use Rattle.std.specs.Prelude.{ℕ, List, None, true, false}
use Rattle.walrus_ty.specs.declared.ty.value.Val.{Val}
use Rattle.walrus_ty.specs.Types.{ModuleType, unnamed_type, function}
use Rattle.walrus_types.specs.Table.{Table, next_id}

-- the final function type without supertype, as it is added to the table
abbrev pub new_function : Table → List (Val ℕ) → List (Val ℕ) → ModuleType
new_function t params results = unnamed_type (function params results) true None false (next_id t)
